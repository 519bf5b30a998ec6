-- The marked answers of the desk hold: each is computed. Assumes nothing.
use mathlib.Core.Path.{◌≡◌, refl, subst}
use mathlib.Core.Bool.{true, ◌&&◌, not}
use mathlib.Core.List.{List}
use Prim.Native.Nat.{ℕ, zero, suc, ◌<◌}
use native.Mathlib.Omega.{arith}
use lib.Dec.{eqb}
use Rattle.promises.specs.Answers.{Advice}
use Rattle.desk.specs.Desk.{Desk}
use Rattle.desk.specs.Desk.{strays, report_fault, goal_held, StartSays, ReportSays}
use Rattle.desk.specs.MarkedDesk.{plant_turns, book_turns, book_other, plant_settled, book_settled, answers}
use Rattle.desk.specs.MarkedDesk.{MarkedDesk}
use Rattle.statements.specs.Sets.{pick, bit, numbers, every, first, is_in, filter}
use Rattle.statements.specs.Plants.{word, words, arrows_from, plant_of, head_ok, labels_ok, rank, arrows_ok, plant_fault}
use Rattle.statements.specs.Plants.{ends_in, ends}
use Rattle.statements.specs.Books.{two, bytes_of, book_long, book_states, book_moves, book_goals, book_count, book_mask, book_total}
use Rattle.statements.specs.Books.{staged, row_place, entry_place, row_long, wait_at, move_at, stage_at, stage_lost, is_lost}
use Rattle.statements.specs.Books.{stage_held, is_held, book_kept, mask_ok, book_head_ok, rows_ok, book_fault, goal_after}
use Rattle.statements.specs.Books.{served, passes, arrive}
use Rattle.statements.specs.Calls.{alike, lent_fault, number_fault, moves_fault}
use Rattle.statements.specs.Marked.{plant_p, book_p, lost_row, book_m1, book_m9}
use Rattle.promises.specs.Says.{step_fault}

-- the one answer that start and report can give
abbrev advice_of : ℕ → List ℕ → ℕ → ℕ → Advice
advice_of n b x i =
    let given = eqb n 0 && not (is_lost b x) in
    record {
      number = n;
      lost = eqb n 0 && is_lost b x;
      action = pick given (move_at b x (arrive b x i)) 0;
      wait = pick given (wait_at b x (arrive b x i)) 0;
      seek = pick given (arrive b x i) 0;
    }

started : (s b : List ℕ) (x : ℕ) {r : Desk} →
    let n = moves_fault s b x 0 in
    record { advice = advice_of n b x 0; state = pick (eqb n 0) x 0; goal = pick (eqb n 0) (goal_held b x 0) 0 } ≡ r →
    StartSays s b x r
started s b x e =
    subst (StartSays s b x) e
    (record {
      shows = record { number = refl; lost = refl; action = refl; wait = refl; seek = refl };
      state = refl;
      goal = refl;
    })

reported : (s b : List ℕ) (x i y : ℕ) {r : Desk} →
    let n = report_fault s b x i y in
    let g = arrive b x i in
    record { advice = advice_of n b y g; state = pick (eqb n 0) y x; goal = pick (eqb n 0) (goal_held b y g) i } ≡ r →
    ReportSays s b x i y r
reported s b x i y e =
    subst (ReportSays s b x i y) e
    (record {
      shows = record { number = refl; lost = refl; action = refl; wait = refl; seek = refl };
      state = refl;
      goal = refl;
    })

-- the two reports, each handed what the desk held, and that each can follow
told : (n : ℕ) → n < 2 → ReportSays plant_p book_m1 (answers n).state (answers n).goal (suc n) (answers (suc n))
unfolding bit numbers every first is_in filter word words arrows_from plant_of head_ok labels_ok rank arrows_ok plant_fault ends_in ends two bytes_of book_long book_states book_moves book_goals book_count book_mask book_total staged row_place entry_place row_long wait_at move_at stage_at stage_lost is_lost stage_held is_held book_kept mask_ok book_head_ok rows_ok book_fault goal_after served passes arrive alike lent_fault number_fault moves_fault step_fault strays report_fault goal_held plant_p book_p lost_row book_m1 book_m9 plant_turns book_turns book_other plant_settled book_settled answers
told zero l = reported plant_p book_m1 0 1 1 refl
told (suc zero) l = reported plant_p book_m1 1 1 2 refl
told (suc (suc n)) l = absurd (omega arith)

can_follow : (n : ℕ) → n < 2 → is_in (suc n) (ends (plant_of plant_p) (answers n).state (answers n).advice.action) ≡ true
unfolding bit numbers every first is_in filter word words arrows_from plant_of head_ok labels_ok rank arrows_ok plant_fault ends_in ends two bytes_of book_long book_states book_moves book_goals book_count book_mask book_total staged row_place entry_place row_long wait_at move_at stage_at stage_lost is_lost stage_held is_held book_kept mask_ok book_head_ok rows_ok book_fault goal_after served passes arrive alike lent_fault number_fault moves_fault step_fault strays report_fault goal_held plant_p book_p lost_row book_m1 book_m9 plant_turns book_turns book_other plant_settled book_settled answers
can_follow zero l = refl
can_follow (suc zero) l = refl
can_follow (suc (suc n)) l = absurd (omega arith)

pub marked_desk : MarkedDesk
unfolding bit numbers every first is_in filter word words arrows_from plant_of head_ok labels_ok rank arrows_ok plant_fault ends_in ends two bytes_of book_long book_states book_moves book_goals book_count book_mask book_total staged row_place entry_place row_long wait_at move_at stage_at stage_lost is_lost stage_held is_held book_kept mask_ok book_head_ok rows_ok book_fault goal_after served passes arrive alike lent_fault number_fault moves_fault step_fault strays report_fault goal_held plant_p book_p lost_row book_m1 book_m9 plant_turns book_turns book_other plant_settled book_settled answers
marked_desk =
    record {
      start = started plant_p book_m1 0 refl;
      other_move = reported plant_p book_m1 0 1 2 refl;
      no_state = reported plant_p book_m1 0 1 4 refl;
      still = reported plant_p book_m1 0 1 1 refl;
      served = reported plant_p book_m1 1 1 2 refl;
      lost = started plant_p book_m1 3 refl;
      from_lost = reported plant_p book_m1 3 0 1 refl;
      eight_first = reported plant_p book_m1 3 0 4 refl;
      held_state = reported plant_p book_m1 4 0 1 refl;
      held_goal = reported plant_p book_m1 0 2 1 refl;
      reported_lost = reported plant_p book_m9 0 1 1 refl;
      no_plant = reported book_m1 book_m1 0 1 4 refl;
      no_book = started plant_p plant_p 7 refl;
      no_start = started plant_p book_m1 4 refl;
      all_served = started plant_turns book_turns 0 refl;
      anew = reported plant_turns book_turns 0 0 1 refl;
      passed_on = reported plant_turns book_other 0 0 1 refl;
      settled = reported plant_settled book_settled 0 0 0 refl;
      other_sort = started plant_turns book_settled 0 refl;
      session = record { starts = started plant_p book_m1 0 refl; goes = told; correct = can_follow };
    }
