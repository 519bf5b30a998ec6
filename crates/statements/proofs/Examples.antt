-- The marked examples hold of the definitions: each is computed. Assumes nothing.
use mathlib.Core.Path.{refl}
use Rattle.statements.specs.Sets.{bit, numbers, every, first, bits, joined, iterate, is_in, all_in, filter}
use Rattle.statements.specs.Plants.{word, words, arrows_from, plant_of, head_ok, labels_ok, rank, arrows_ok}
use Rattle.statements.specs.Plants.{plant_fault, allowed, in_goal, settled, ends_in, ends, available, goes_into, move_into}
use Rattle.statements.specs.Plants.{moves_into, can}
use Rattle.statements.specs.Kept.{grown, target, forced, forced_all, held_round, held_within, next_stage, stages_to}
use Rattle.statements.specs.Kept.{kept_within}
use Rattle.statements.specs.Kept.{stages_before, stage_of, stage_after, stage_for, level, wait_in, wait_of, nearer}
use Rattle.statements.specs.Kept.{landing, listed_move}
use Rattle.statements.specs.Books.{two, bytes_of, book_long, entry_of, stage_part, row_of, head_of, book_bytes}
use Rattle.statements.specs.Books.{book_states, book_total, staged, row_place, entry_place, row_long, stage_at}
use Rattle.statements.specs.Books.{stage_lost, stage_held, earlier_in, onward_in, rule_in}
use Rattle.statements.specs.Books.{book_moves}
use Rattle.statements.specs.Books.{book_goals, book_count, book_mask, wait_at, move_at, is_lost, is_held, book_kept}
use Rattle.statements.specs.Books.{mask_at, mask_ok, each_ok, book_head_ok, rows_ok, book_fault, goal_after, served}
use Rattle.statements.specs.Books.{passes, arrive, nearer_in, good_moves, less_mask, book_within}
use Rattle.statements.specs.Books.{made_book, kept_before, withdrawn_book, masks_in, masks_of, withdrawn_in_turn}
use Rattle.statements.specs.Books.{withdrawn_list, returned_book, dropped_states, gained_states}
use Rattle.statements.specs.Calls.{mask_fault, whole_masks, masks_fault, book_room, drop_room, room_fault, make_fault}
use Rattle.statements.specs.Calls.{alike, lent_fault, withdraw_fault, withdraw_list_fault, preview_fault, number_fault}
use Rattle.statements.specs.Calls.{consult_fault, moves_fault, row_part, answer_of}
use Rattle.statements.specs.Calls.{standing_after, standing, answers, told_of, number_told, told, put_after, in_service}
use Rattle.statements.specs.Marked.{plant_p, plant_still, plant_loop, plant_may, plant_end, book_p, lost_row}
use Rattle.statements.specs.Marked.{book_m1, book_m2, book_m9, book_both, book_both9, book_four, book_three, book_five}
use Rattle.statements.specs.Marked.{book_eight, all_lost}
use Rattle.statements.specs.Marked.{Marked, fifteen, MarkedArrivals, MarkedRows, MarkedMoves, MarkedPreviews}
use Rattle.statements.specs.Marked.{MarkedLists, out_and_back, MarkedReturns}
use Rattle.statements.specs.MarkedStages.{plant_one, book_one, plant_leave, plant_unfair, plant_down, plant_detour}
use Rattle.statements.specs.MarkedStages.{book_detour, book_detour0, plant_mixed, plant_two, book_two, book_two_low}
use Rattle.statements.specs.MarkedStages.{book_two_lost, book_two_high, book_plain, goods, row_bytes}
use Rattle.statements.specs.MarkedStages.{MarkedStages, AnsweredStages}

pub marked : Marked
unfolding bit numbers every first joined iterate is_in all_in filter word words arrows_from plant_of head_ok labels_ok rank arrows_ok plant_fault allowed in_goal settled ends_in ends available goes_into move_into can grown target forced forced_all held_round held_within next_stage stages_to kept_within stages_before stage_of stage_after stage_for level wait_in wait_of nearer landing listed_move two book_long entry_of stage_part row_of head_of book_bytes book_states book_moves book_goals book_count book_mask book_total staged row_place entry_place row_long wait_at move_at stage_at stage_lost is_lost stage_held is_held book_kept mask_ok book_head_ok rows_ok book_fault goal_after served passes arrive less_mask book_within made_book kept_before withdrawn_book dropped_states mask_fault book_room drop_room room_fault make_fault alike lent_fault withdraw_fault number_fault consult_fault row_part answer_of standing_after standing answers told_of number_told told put_after in_service bytes_of plant_p plant_still plant_loop plant_may plant_end book_p lost_row book_m1 book_m2 book_m9 all_lost
marked =
    record {
      m1 = record { accepted = refl; short = refl; book = refl; lists_none = refl };
      m2 = record { accepted = refl; short_book = refl; short_list = refl; book = refl; list = refl };
      m3 = record { accepted = refl; short_book = refl; short_list = refl; book = refl; list = refl };
      m4 = record { accepted = refl; short_book = refl; short_list = refl; book = refl; list = refl };
      m5 = record { accepted = refl; short = refl; book = refl; lists_none = refl };
      m6 = record { accepted = refl; short = refl; book = refl; lists_none = refl };
      m7 = record { accepted = refl; short = refl; book = refl; lists_none = refl };
      m8 = record { accepted = refl; short = refl; book = refl; lists_none = refl };
      m9 = record { accepted = refl; short_book = refl; short_list = refl; book = refl; list = refl };
      m10_first = record { accepted = refl; move_is = refl; wait_is = refl; seek_is = refl };
      m10_second = record { accepted = refl; move_is = refl; wait_is = refl; seek_is = refl };
      m11 = record { accepted = refl; short = refl; book = refl; lists_none = refl };
    }

pub marked_arrivals : MarkedArrivals
unfolding bit numbers every first filter word two book_long book_states book_moves book_goals book_count book_mask book_total staged row_place entry_place row_long wait_at move_at stage_at stage_lost is_lost stage_held is_held book_kept mask_ok book_head_ok rows_ok book_fault goal_after served passes arrive number_fault consult_fault bytes_of book_three book_five book_eight
marked_arrivals =
    record {
      none = record { accepted = refl; move_is = refl; wait_is = refl; seek_is = refl };
      others = record { accepted = refl; move_is = refl; wait_is = refl; seek_is = refl };
      one = record { accepted = refl; move_is = refl; wait_is = refl; seek_is = refl };
      two = record { accepted = refl; move_is = refl; wait_is = refl; seek_is = refl };
      round = record { accepted = refl; move_is = refl; wait_is = refl; seek_is = refl };
      two_round = record { accepted = refl; move_is = refl; wait_is = refl; seek_is = refl };
      until = record { accepted = refl; move_is = refl; wait_is = refl; seek_is = refl };
      all = record { accepted = refl; move_is = refl; wait_is = refl; seek_is = refl };
      last = record { accepted = refl; move_is = refl; wait_is = refl; seek_is = refl };
      five = record { accepted = refl; move_is = refl; wait_is = refl; seek_is = refl };
      five_round = record { accepted = refl; move_is = refl; wait_is = refl; seek_is = refl };
      five_all = record { accepted = refl; move_is = refl; wait_is = refl; seek_is = refl };
      eight = record { accepted = refl; move_is = refl; wait_is = refl; seek_is = refl };
      eight_round = record { accepted = refl; move_is = refl; wait_is = refl; seek_is = refl };
      eight_all = record { accepted = refl; move_is = refl; wait_is = refl; seek_is = refl };
      no_goal = refl;
    }

pub marked_rows : MarkedRows
unfolding bit numbers every first filter word two book_long book_states book_moves book_goals book_count book_mask book_total staged row_place entry_place row_long wait_at move_at stage_at stage_lost is_lost stage_held is_held book_kept mask_ok book_head_ok rows_ok book_fault number_fault consult_fault bytes_of book_three row_part book_p lost_row book_m1
marked_rows =
    record {
      first_state = refl;
      second_state = refl;
      lost = refl;
      low_first = refl;
      no_state = refl;
      no_book = refl;
    }

pub marked_moves : MarkedMoves
unfolding bit numbers every first is_in all_in filter bits word words arrows_from plant_of head_ok labels_ok rank arrows_ok plant_fault ends_in ends available goes_into move_into moves_into can two book_long book_states book_moves book_goals book_count book_mask book_total staged row_place entry_place row_long wait_at move_at stage_at stage_lost is_lost stage_held is_held book_kept mask_ok book_head_ok rows_ok book_fault goal_after served passes arrive nearer_in earlier_in onward_in rule_in good_moves alike lent_fault number_fault moves_fault bytes_of plant_p plant_may book_p lost_row book_m1 book_m2 book_m9 book_both book_both9
marked_moves =
    record {
      on_the_way = record { accepted = refl; moves_are = refl };
      no_nearer = record { accepted = refl; moves_are = refl };
      passed = record { accepted = refl; moves_are = refl };
      at_goal = record { accepted = refl; moves_are = refl };
      lost_end = record { accepted = refl; moves_are = refl };
      withdrawn = record { accepted = refl; moves_are = refl };
      lost = record { accepted = refl; moves_are = refl };
      partly = record { accepted = refl; moves_are = refl };
      empty = record { accepted = refl; moves_are = refl };
      no_state = refl;
      no_goal = refl;
      unlike = refl;
    }

pub marked_previews : MarkedPreviews
unfolding bit numbers every first joined iterate is_in all_in filter word words arrows_from plant_of head_ok labels_ok rank arrows_ok plant_fault allowed in_goal settled ends_in ends available goes_into move_into can grown target forced forced_all held_round held_within next_stage stages_to kept_within stages_before stage_of stage_after stage_for level wait_in wait_of nearer landing listed_move two book_long entry_of stage_part row_of head_of book_bytes book_states book_moves book_goals book_count book_mask book_total staged row_place entry_place row_long wait_at move_at stage_at stage_lost is_lost stage_held is_held book_kept mask_ok book_head_ok rows_ok book_fault less_mask book_within kept_before withdrawn_book dropped_states mask_fault drop_room alike lent_fault preview_fault bytes_of plant_p plant_may book_p lost_row book_m1 book_m9
marked_previews =
    record {
      none = record { accepted = refl; short = refl; drops_are = refl; kept_is = refl };
      all = record { accepted = refl; short = refl; drops_are = refl; kept_is = refl };
      not_made = record { accepted = refl; short = refl; drops_are = refl; kept_is = refl };
      no_move = refl;
      unlike = refl;
    }

pub marked_lists : MarkedLists
unfolding bit numbers every first joined iterate is_in all_in filter word words arrows_from plant_of head_ok labels_ok rank arrows_ok plant_fault allowed in_goal settled ends_in ends available goes_into move_into can grown target forced forced_all held_round held_within next_stage stages_to kept_within stages_before stage_of stage_after stage_for level wait_in wait_of nearer landing listed_move two book_long entry_of stage_part row_of head_of book_bytes book_states book_moves book_goals book_count book_mask book_total staged row_place entry_place row_long wait_at move_at stage_at stage_lost is_lost stage_held is_held book_kept mask_at mask_ok each_ok book_head_ok rows_ok book_fault less_mask book_within kept_before withdrawn_book masks_in masks_of withdrawn_in_turn withdrawn_list dropped_states whole_masks masks_fault book_room drop_room room_fault alike lent_fault withdraw_list_fault bytes_of plant_p plant_may book_p lost_row book_m1 book_m2 book_m9 all_lost fifteen
marked_lists =
    record {
      two_masks = record { accepted = refl; short_book = refl; short_list = refl; book = refl; list = refl };
      all = record { accepted = refl; short_book = refl; short_list = refl; book = refl; list = refl };
      twice = record { accepted = refl; short_book = refl; short_list = refl; book = refl; list = refl };
      none = record { accepted = refl; short_book = refl; short_list = refl; book = refl; list = refl };
      zero_mask = record { accepted = refl; short_book = refl; short_list = refl; book = refl; list = refl };
      not_made = record { accepted = refl; short_book = refl; short_list = refl; book = refl; list = refl };
      most = record { accepted = refl; short_book = refl; short_list = refl; book = refl; list = refl };
      too_many = refl;
      cut = refl;
      first_bad = refl;
      last_bad = refl;
      unlike = refl;
    }

pub marked_returns : MarkedReturns
unfolding bit numbers every first joined iterate is_in all_in filter word words arrows_from plant_of head_ok labels_ok rank arrows_ok plant_fault allowed in_goal settled ends_in ends available goes_into move_into can grown target forced forced_all held_round held_within next_stage stages_to kept_within stages_before stage_of stage_after stage_for level wait_in wait_of nearer landing listed_move two book_long entry_of stage_part row_of head_of book_bytes book_states book_moves book_goals book_count book_mask book_total staged row_place entry_place row_long wait_at move_at stage_at stage_lost is_lost stage_held is_held book_kept mask_ok book_head_ok rows_ok book_fault less_mask book_within made_book kept_before withdrawn_book returned_book gained_states mask_fault book_room drop_room room_fault alike lent_fault withdraw_fault answer_of standing_after standing answers told_of number_told put_after in_service bytes_of plant_p plant_may book_p lost_row book_m1 book_m2 book_m9 book_four all_lost out_and_back
marked_returns =
    record {
      none = record { accepted = refl; short_book = refl; short_list = refl; book = refl; list = refl };
      all = record { accepted = refl; short_book = refl; short_list = refl; book = refl; list = refl };
      two_moves = record { accepted = refl; short_book = refl; short_list = refl; book = refl; list = refl };
      not_enough = record { accepted = refl; short_book = refl; short_list = refl; book = refl; list = refl };
      in_service_lem = record { accepted = refl; short_book = refl; short_list = refl; book = refl; list = refl };
      zero_mask = record { accepted = refl; short_book = refl; short_list = refl; book = refl; list = refl };
      not_made = record { accepted = refl; short_book = refl; short_list = refl; book = refl; list = refl };
      lost_now = record { accepted = refl; short_book = refl; short_list = refl; book = refl; list = refl };
      no_move = refl;
      unlike = refl;
      numbers_are = refl;
      in_service_are = refl;
      stands = refl;
    }

pub marked_stages : MarkedStages
unfolding bit numbers every first joined iterate is_in all_in filter word words arrows_from plant_of head_ok labels_ok rank arrows_ok plant_fault allowed in_goal settled ends_in ends available goes_into move_into can grown target forced forced_all held_round held_within next_stage stages_to kept_within stages_before stage_of stage_after stage_for level wait_in wait_of nearer landing listed_move two book_long entry_of stage_part row_of head_of book_bytes book_states book_moves book_goals book_count book_mask book_total staged row_place entry_place row_long wait_at move_at stage_at stage_lost is_lost stage_held is_held book_kept mask_ok book_head_ok rows_ok book_fault goal_after served passes arrive less_mask book_within made_book kept_before withdrawn_book dropped_states mask_fault book_room drop_room room_fault make_fault alike lent_fault withdraw_fault number_fault consult_fault row_part bytes_of plant_p plant_loop book_p lost_row book_m1 bits moves_into nearer_in earlier_in onward_in rule_in good_moves moves_fault preview_fault returned_book gained_states plant_one book_one plant_leave plant_unfair plant_down plant_detour book_detour book_detour0 plant_mixed plant_two book_two book_two_low book_two_lost book_two_high book_plain goods row_bytes
marked_stages =
    record {
      leave = refl;
      unfair = refl;
      down = refl;
      detour = refl;
      mixed = refl;
      two = refl;
      withdrawn = refl;
      none_dropped = refl;
      returned = refl;
      dropped_states_lem = refl;
      old_stages = refl;
      gained_states_lem = refl;
      not_allowed = refl;
      passed = record { move_is = refl; wait_is = refl; seek_is = refl };
      leaves = record { move_is = refl; wait_is = refl; seek_is = refl };
      on_the_way = refl;
      leave_alone = refl;
      at_goals = refl;
      own_rows = refl;
      earlier_there = refl;
      lost_end = refl;
      leave_above_zero = refl;
      row = refl;
      row_one = refl;
      stage_is = refl;
      no_stage = refl;
      sort = refl;
      plain_sort = refl;
      free = refl;
      not_free = refl;
      bit_eight = refl;
      bit_ten = refl;
      eight_goals = refl;
      most = refl;
      stage_zero = refl;
      stage_past = refl;
      lost = refl;
      lost_with_stage = refl;
      mark_for_stage = refl;
      lost_by_stage = refl;
      stage_most = refl;
      plain_unlike = refl;
      staged_unlike = refl;
      staged_alike = refl;
      room = refl;
      short = refl;
    }

pub answered_stages : AnsweredStages
unfolding bit numbers every first joined iterate is_in all_in filter word words arrows_from plant_of head_ok labels_ok rank arrows_ok plant_fault allowed in_goal settled ends_in ends available goes_into move_into can grown target forced forced_all held_round held_within next_stage stages_to kept_within stages_before stage_of stage_after stage_for level wait_in wait_of nearer landing listed_move two book_long entry_of stage_part row_of head_of book_bytes book_states book_moves book_goals book_count book_mask book_total staged row_place entry_place row_long wait_at move_at stage_at stage_lost is_lost stage_held is_held book_kept mask_ok book_head_ok rows_ok book_fault goal_after served passes arrive less_mask book_within made_book kept_before withdrawn_book dropped_states mask_fault book_room drop_room room_fault make_fault alike lent_fault withdraw_fault number_fault consult_fault row_part bytes_of plant_p plant_loop book_p lost_row book_m1 bits moves_into nearer_in earlier_in onward_in rule_in good_moves moves_fault preview_fault returned_book gained_states plant_one book_one plant_leave plant_unfair plant_down plant_detour book_detour book_detour0 plant_mixed plant_two book_two book_two_low book_two_lost book_two_high book_plain goods row_bytes
answered_stages =
    record {
      leave = record { exact = refl; short = refl };
      unfair = record { exact = refl; short = refl };
      down = record { exact = refl; short = refl };
      detour = record { exact = refl; short = refl };
      mixed = record { exact = refl; short = refl };
      two = record { exact = refl; short = refl };
      withdrawn = refl;
      returned = refl;
      not_allowed = refl;
      consulted = refl;
      moves_low = refl;
      moves_lost = refl;
      moves_high = refl;
      row = refl;
      lost_row_lem = refl;
      no_row = refl;
      last_two = refl;
      free = refl;
      not_free = refl;
      bit_eight = refl;
      bit_ten = refl;
      other_sort = refl;
      plain_book = refl;
      plain_unlike = refl;
      most = refl;
      stage_zero = refl;
      stage_past = refl;
      lost = refl;
      lost_with_stage = refl;
      mark_for_stage = refl;
    }
