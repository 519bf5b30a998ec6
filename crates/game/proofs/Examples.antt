-- The marked examples hold of the definitions: each is computed. Assumes nothing.
use mathlib.Core.Path.{refl}
use Rattle.statements.specs.Sets.{numbers, every, first, joined, iterate, is_in, filter}
use Rattle.game.specs.Walked.{nodes, node_at, leads_into, can_enter, grown_by, targets, level, wait_of, walked_waits}
use Rattle.game.specs.Game.{grown_in, aims, reached_in, attracted, attracted_all, held_after, steps_to, steps_of}
use Rattle.game.specs.Draining.{moves_on, drained}
use Rattle.game.specs.Marked.{Marked, MarkedGames, MarkedDrained}

pub marked : Marked
unfolding numbers every first joined iterate is_in filter
    nodes node_at leads_into can_enter grown_by targets level wait_of walked_waits
marked =
    record {
      chain = refl;
      outside = refl;
      target_outside = refl;
      both = refl;
      not_both = refl;
      shorter = refl;
      no_end = refl;
      cycle = refl;
      way_out = refl;
      first_node = refl;
      second_node = refl;
      third_node = refl;
    }

pub marked_games : MarkedGames
unfolding numbers every first joined iterate is_in filter nodes node_at leads_into can_enter
    grown_in aims reached_in attracted attracted_all held_after steps_to steps_of
marked_games =
    record {
      left = refl;
      steps = refl;
      first_round = refl;
      lost = refl;
      over_there = refl;
      without_goal = refl;
      mark = refl;
    }

pub marked_drained : MarkedDrained
unfolding numbers every first joined iterate is_in filter nodes node_at leads_into can_enter moves_on drained
marked_drained = record { one_step = refl; nothing = refl; over_there = refl }
