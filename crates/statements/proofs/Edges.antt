-- The marked examples at the edges hold of the definitions: each is computed. Assumes nothing.
use mathlib.Core.Path.{refl}
use Rattle.statements.specs.Sets.{bit, numbers, every, first, bits, joined, iterate, is_in, all_in, filter}
use Rattle.statements.specs.Plants.{word, words, arrows_from, plant_of, head_ok, labels_ok, rank, arrows_ok}
use Rattle.statements.specs.Plants.{plant_fault, allowed, in_goal, settled, ends_in, ends, available, goes_into}
use Rattle.statements.specs.Plants.{move_into, moves_into, can}
use Rattle.statements.specs.Kept.{grown, target, forced, forced_all, held_round, held_within, next_stage, stages_to}
use Rattle.statements.specs.Kept.{kept_within, stages_before, stage_of, stage_after, stage_for, level, wait_in, wait_of}
use Rattle.statements.specs.Kept.{nearer, landing, listed_move}
use Rattle.statements.specs.Books.{two, bytes_of, book_long, entry_of, stage_part, row_of, head_of, book_bytes}
use Rattle.statements.specs.Books.{book_states, book_total, staged, row_place, entry_place, row_long, stage_at}
use Rattle.statements.specs.Books.{stage_lost, stage_held, earlier_in, onward_in, rule_in, book_moves, book_goals}
use Rattle.statements.specs.Books.{book_count, book_mask, wait_at, move_at, is_lost, is_held, book_kept, mask_at, mask_ok}
use Rattle.statements.specs.Books.{each_ok, book_head_ok, rows_ok, book_fault, nearer_in, good_moves, less_mask, union_of}
use Rattle.statements.specs.Books.{book_within, made_book, kept_before, withdrawn_book, masks_in, masks_of}
use Rattle.statements.specs.Books.{withdrawn_in_turn, withdrawn_list, returned_book, dropped_states, gained_states}
use Rattle.statements.specs.Calls.{mask_fault, whole_masks, masks_fault, book_room, drop_room, room_fault, make_fault}
use Rattle.statements.specs.Calls.{alike, lent_fault, withdraw_fault, withdraw_list_fault, told_of, number_told}
use Rattle.statements.specs.Calls.{put_after, in_service}
use Rattle.statements.specs.Marked.{plant_loop}
use Rattle.statements.specs.MarkedEdges.{plant_high, book_high, lost_high, served_high, book_forbidden, lost_forbidden}
use Rattle.statements.specs.MarkedEdges.{MarkedHigh, MarkedForbidden}

pub marked_high : MarkedHigh
unfolding bit numbers every first bits joined iterate is_in all_in filter word words arrows_from plant_of head_ok labels_ok rank arrows_ok plant_fault allowed in_goal settled ends_in ends available goes_into move_into moves_into can grown target forced forced_all held_round held_within next_stage stages_to kept_within stages_before stage_of stage_after stage_for level wait_in wait_of nearer landing listed_move two book_long entry_of stage_part row_of head_of book_bytes book_states book_moves book_goals book_count book_mask book_total staged row_place entry_place row_long wait_at move_at stage_at stage_lost is_lost stage_held is_held book_kept mask_at mask_ok each_ok book_head_ok rows_ok book_fault nearer_in earlier_in onward_in rule_in good_moves less_mask book_within made_book kept_before withdrawn_book masks_in masks_of union_of withdrawn_in_turn withdrawn_list returned_book dropped_states gained_states mask_fault whole_masks masks_fault book_room drop_room room_fault make_fault alike lent_fault withdraw_fault withdraw_list_fault told_of number_told put_after in_service bytes_of plant_high book_high lost_high served_high
marked_high =
    record {
      made = refl;
      good = refl;
      sixteen = refl;
      last = refl;
      both = refl;
      by_list = refl;
      dropped = refl;
      returned = refl;
      gained = refl;
      after_make = refl;
      after_sixteen = refl;
      after_last = refl;
      after_list = refl;
      after_return = refl;
      all_moves = refl;
      none_above = refl;
      withdraw_all = refl;
      list_all = refl;
      return_all = refl;
    }

pub marked_forbidden : MarkedForbidden
unfolding bit numbers every first bits joined iterate is_in all_in filter word words arrows_from plant_of head_ok labels_ok rank arrows_ok plant_fault allowed in_goal settled ends_in ends available goes_into move_into moves_into can grown target forced forced_all held_round held_within next_stage stages_to kept_within stages_before stage_of stage_after stage_for level wait_in wait_of nearer landing listed_move two book_long entry_of stage_part row_of head_of book_bytes book_states book_moves book_goals book_count book_mask book_total staged row_place entry_place row_long wait_at move_at stage_at stage_lost is_lost stage_held is_held book_kept mask_at mask_ok each_ok book_head_ok rows_ok book_fault nearer_in earlier_in onward_in rule_in good_moves less_mask book_within made_book kept_before withdrawn_book masks_in masks_of union_of withdrawn_in_turn withdrawn_list returned_book dropped_states gained_states mask_fault whole_masks masks_fault book_room drop_room room_fault make_fault alike lent_fault withdraw_fault withdraw_list_fault told_of number_told put_after in_service bytes_of plant_loop book_forbidden lost_forbidden
marked_forbidden = record { accepted = refl; book = refl; dropped = refl }
