-- The marked examples for request (xiii) hold of the definitions: each is computed. Assumes nothing.
use mathlib.Core.Path.{refl}
use Rattle.statements.specs.Sets.{bit, numbers, every, first, iterate, is_in, all_in, filter}
use Rattle.statements.specs.Plants.{word, words, arrows_from, plant_of, allowed, in_goal, ends_in, ends, available}
use Rattle.statements.specs.Plants.{goes_into, move_into, can}
use Rattle.statements.specs.Kept.{grown}
use Rattle.statements.specs.Books.{two, bytes_of, book_states, book_goals, book_mask, book_total, staged, book_long}
use Rattle.statements.specs.Books.{row_place, entry_place, row_long, wait_at, move_at, stage_at, stage_lost, is_lost}
use Rattle.statements.specs.Books.{less_mask, kept_before}
use Rattle.statements.specs.Rounds.{target_into, forced_into, next_round, round_from, same_states, rounds_from, rounds_of}
use Rattle.statements.specs.Marked.{plant_p, plant_loop, book_p, lost_row, book_m1, book_m9}
use Rattle.statements.specs.MarkedStages.{plant_leave}
use Rattle.statements.specs.MarkedRounds.{plant_chain, plant_pair, MarkedRounds}

pub marked_rounds : MarkedRounds
unfolding bit numbers every first iterate is_in all_in filter word words arrows_from plant_of allowed in_goal ends_in ends available goes_into move_into can grown two bytes_of book_states book_goals book_mask book_total staged book_long row_place entry_place row_long wait_at move_at stage_at stage_lost is_lost less_mask kept_before target_into forced_into next_round round_from same_states rounds_from rounds_of plant_p plant_loop book_p lost_row book_m1 book_m9 plant_leave plant_chain plant_pair
marked_rounds =
    record {
      strip = refl;
      chain = refl;
      no_move = refl;
      none_allowed = refl;
      at_once = refl;
      third = refl;
      nothing = refl;
      kept_before_lem = refl;
      by_list = refl;
      back = refl;
      made_by = refl;
      withdrawn_by = refl;
      settles = refl;
    }
