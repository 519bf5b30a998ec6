-- The marked examples for request (x) hold of the definitions: books and rows are computed, and what state 0 reaches is
-- told from the arrows on the way. Assumes nothing.
use mathlib.Core.Path.{◌≡◌, refl, sym, subst, ap}
use mathlib.Core.Logic.{◌⊎◌, inl, inr, ⊎_elim}
use mathlib.Core.Bool.{Bool, true, false, true≢false}
use mathlib.Core.List.{[]}
use Prim.Native.Nat.{ℕ}
use native.Mathlib.Omega.{arith}
use lib.Dec.{eqb}
use borrow.Author.Tests.{eqb-true}
use Rattle.statements.specs.Sets.{bit, numbers, every, first, joined, iterate, is_in, all_in, cons_if, filter}
use Rattle.statements.specs.Plants.{word, words, arrows_from, plant_of, head_ok, labels_ok, rank, arrows_ok}
use Rattle.statements.specs.Plants.{plant_fault, allowed, in_goal, settled, ends_in, ends, available, goes_into}
use Rattle.statements.specs.Plants.{move_into, can}
use Rattle.statements.specs.Kept.{grown, target, forced, forced_all, held_round, held_within, next_stage, stages_to}
use Rattle.statements.specs.Kept.{kept_within, stages_before, stage_of, stage_after, stage_for, level, wait_in, wait_of}
use Rattle.statements.specs.Kept.{nearer, landing, listed_move}
use Rattle.statements.specs.Books.{two, book_long, entry_of, stage_part, row_of, head_of, book_bytes, book_states}
use Rattle.statements.specs.Books.{book_moves, book_goals, book_count, book_mask, book_total, staged, row_place}
use Rattle.statements.specs.Books.{entry_place, row_long, wait_at, move_at, stage_at, stage_lost, is_lost, stage_held}
use Rattle.statements.specs.Books.{is_held, book_kept, mask_ok, book_head_ok, rows_ok, book_fault, book_within}
use Rattle.statements.specs.Books.{made_book, bytes_of}
use Rattle.statements.specs.Calls.{mask_fault, book_room, make_fault, number_fault, consult_fault, row_part}
use Rattle.statements.specs.Elsewhere.{Reachable, itself, further, AgreeFrom}
use Rattle.statements.specs.MarkedStages.{plant_one}
use Rattle.statements.specs.MarkedElsewhere.{plant_ring, plant_no_ring, plant_swap, plant_no_swap, plant_calm}
use Rattle.statements.specs.MarkedElsewhere.{plant_restless, plant_step, plant_behind, MarkedElsewhere}
use Rattle.statements.specs.MarkedElsewhere.{MarkedApart}

pub marked_apart : MarkedApart
unfolding bit numbers every first joined iterate is_in all_in filter word words arrows_from plant_of head_ok labels_ok rank arrows_ok plant_fault allowed in_goal settled ends_in ends available goes_into move_into can grown target forced forced_all held_round held_within next_stage stages_to kept_within stages_before stage_of stage_after stage_for level wait_in wait_of nearer landing listed_move two book_long entry_of stage_part row_of head_of book_bytes book_states book_moves book_goals book_count book_mask book_total staged row_place entry_place row_long wait_at move_at stage_at stage_lost is_lost stage_held is_held book_kept mask_ok book_head_ok rows_ok book_fault book_within made_book mask_fault book_room make_fault number_fault consult_fault row_part bytes_of plant_one plant_step plant_swap plant_no_swap plant_behind
marked_apart =
    record {
      arrows = λ agree. true≢false ((agree 0 itself).arrows 0 1 refl);
      swap_row = refl;
      no_swap_row = refl;
      own_label = λ agree. omega (arith, (agree 0 itself).label);
      step_row = refl;
      no_step_row = refl;
      sort = λ same. true≢false (sym same.settles);
      plain_row = refl;
      staged_row = refl;
      behind = λ agree.
          omega (arith, (agree 2 (further 1 0 2 (further 0 0 1 itself refl refl) refl refl)).label);
      behind_row = refl;
      behind_other_row = refl;
    }

-- the one end that a move has, if a test holds
one_end : (t : Bool) (y z : ℕ) → is_in y (cons_if t z []) ≡ true → y ≡ z
unfolding is_in
one_end true y z h = go (eqb y z) refl h
  where
    go : (b : Bool) → eqb y z ≡ b → is_in y (cons_if true z []) ≡ true → y ≡ z
    go true e h = eqb-true y z e
    go false e h = absurd (true≢false (sym (rw e at h)))
one_end false y z h = absurd (true≢false (sym h))

-- state 0 of the ring's plant reaches itself alone
ring_reach : {y : ℕ} → Reachable (plant_of plant_ring) 1 0 y → y ≡ 0
unfolding bit is_in word words arrows_from plant_of ends_in ends two bytes_of plant_ring plant_no_ring
ring_reach itself = refl
ring_reach (further x u y r b e) = one_end (eqb 0 u) y 0 (rw (ring_reach r) at e)

ring_agree : AgreeFrom (plant_of plant_ring) (plant_of plant_no_ring) 1 0
unfolding bit is_in word words arrows_from plant_of ends_in ends two bytes_of plant_ring plant_no_ring
ring_agree y r = rw (ring_reach r) (record { label = refl; arrows = λ u z b. refl })

-- move 0 is not in service with mask 2
out_of_service : (u : ℕ) → bit u 2 ≡ true → eqb 0 u ≡ false
unfolding bit
out_of_service u h = go (eqb 0 u) refl
  where
    go : (b : Bool) → eqb 0 u ≡ b → eqb 0 u ≡ false
    go true e = absurd (true≢false (sym (subst (λ (v : ℕ). bit v 2 ≡ true) (sym (eqb-true 0 u e)) h)))
    go false e = e

-- so that by it no state is reached
swap_reach : {y : ℕ} → Reachable (plant_of plant_swap) 2 0 y → y ≡ 0
unfolding bit is_in word words arrows_from plant_of ends_in ends two bytes_of plant_swap
swap_reach itself = refl
swap_reach (further x u y r b e) =
    let here : is_in y (ends (plant_of plant_swap) 0 u) ≡ true = rw (swap_reach r) at e in
    one_end (eqb 1 u) y 0 (rw (out_of_service u b) at here)

swap_agree : AgreeFrom (plant_of plant_swap) (plant_of plant_no_swap) 2 0
unfolding bit is_in word words arrows_from plant_of ends_in ends two bytes_of plant_swap plant_no_swap
swap_agree y r =
    rw (swap_reach r)
    (record {
      label = refl;
      arrows = λ u z b. ap (λ t. is_in z (cons_if t 1 (cons_if (eqb 1 u) 0 []))) (out_of_service u b);
    })

-- from state 0 of the calm plant 1 is reached, which stays
calm_reach : {y : ℕ} → Reachable (plant_of plant_calm) 1 0 y → (y ≡ 0) ⊎ (y ≡ 1)
unfolding bit is_in word words arrows_from plant_of ends_in ends two bytes_of plant_calm
calm_reach itself = inl refl
calm_reach (further x u y r b e) =
    inr (⊎_elim (λ z. one_end (eqb 0 u) y 1 (rw z at e)) (λ z. one_end (eqb 0 u) y 1 (rw z at e)) (calm_reach r))

calm_agree : AgreeFrom (plant_of plant_calm) (plant_of plant_restless) 1 0
unfolding bit is_in word words arrows_from plant_of ends_in ends two bytes_of plant_calm plant_restless
calm_agree y r =
    ⊎_elim (λ z. rw z (record { label = refl; arrows = λ u z b. refl }))
    (λ z. rw z (record { label = refl; arrows = λ u z b. refl })) (calm_reach r)

pub marked_elsewhere : MarkedElsewhere
unfolding bit numbers every first joined iterate is_in all_in filter word words arrows_from plant_of head_ok labels_ok rank arrows_ok plant_fault allowed in_goal settled ends_in ends available goes_into move_into can grown target forced forced_all held_round held_within next_stage stages_to kept_within stages_before stage_of stage_after stage_for level wait_in wait_of nearer landing listed_move two book_long entry_of stage_part row_of head_of book_bytes book_states book_moves book_goals book_count book_mask book_total staged row_place entry_place row_long wait_at move_at stage_at stage_lost is_lost stage_held is_held book_kept mask_ok book_head_ok rows_ok book_fault book_within made_book mask_fault book_room make_fault number_fault consult_fault row_part bytes_of plant_ring plant_no_ring plant_swap plant_no_swap plant_calm plant_restless
marked_elsewhere =
    record {
      ring =
          record {
            made = record { accepted = refl; short = refl; book = refl; lists_none = refl };
            other_made = record { accepted = refl; short = refl; book = refl; lists_none = refl };
            both =
                record {
                  room = 28;
                  other_room = 28;
                  made = refl;
                  other_made = refl;
                  figures = record { states = refl; moves = refl; goals = refl; settles = refl };
                };
            agree = ring_agree;
            row_is = refl;
            other_row = refl;
            same = refl;
          };
      swap =
          record {
            made = record { accepted = refl; short = refl; book = refl; lists_none = refl };
            other_made = record { accepted = refl; short = refl; book = refl; lists_none = refl };
            both =
                record {
                  room = 24;
                  other_room = 24;
                  made = refl;
                  other_made = refl;
                  figures = record { states = refl; moves = refl; goals = refl; settles = refl };
                };
            agree = swap_agree;
            row_is = refl;
            other_row = refl;
            same = refl;
          };
      calm =
          record {
            made = record { accepted = refl; short = refl; book = refl; lists_none = refl };
            other_made = record { accepted = refl; short = refl; book = refl; lists_none = refl };
            both =
                record {
                  room = 34;
                  other_room = 34;
                  made = refl;
                  other_made = refl;
                  figures = record { states = refl; moves = refl; goals = refl; settles = refl };
                };
            agree = calm_agree;
            row_is = refl;
            other_row = refl;
            same = refl;
          };
    }
