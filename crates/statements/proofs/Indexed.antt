-- The marked examples for the index and the calls by it hold of the definitions: each is computed. Assumes nothing.
use mathlib.Core.Path.{refl}
use Rattle.statements.specs.Sets.{bit, numbers, every, first, joined, iterate, is_in, all_in, filter}
use Rattle.statements.specs.Plants.{word, words, arrows_from, plant_of, head_ok, labels_ok, rank, arrows_ok}
use Rattle.statements.specs.Plants.{plant_fault, allowed, in_goal, settled, ends_in, ends, available, goes_into}
use Rattle.statements.specs.Plants.{move_into, can}
use Rattle.statements.specs.Kept.{grown, target, forced, forced_all, held_round, held_within, next_stage, stages_to}
use Rattle.statements.specs.Kept.{kept_within, stages_before, stage_of, stage_after, stage_for, level, wait_in, wait_of}
use Rattle.statements.specs.Kept.{nearer, landing, listed_move}
use Rattle.statements.specs.Books.{two, book_long, entry_of, stage_part, row_of, head_of, book_bytes, book_states}
use Rattle.statements.specs.Books.{book_moves, book_goals, book_count, book_mask, book_total, staged, row_place}
use Rattle.statements.specs.Books.{entry_place, row_long, wait_at, move_at, stage_at, stage_lost, is_lost, stage_held}
use Rattle.statements.specs.Books.{is_held, book_kept, mask_ok, book_head_ok, rows_ok, book_fault, less_mask, book_within}
use Rattle.statements.specs.Books.{made_book, kept_before, withdrawn_book, dropped_states, bytes_of}
use Rattle.statements.specs.Index.{arrows_to, by_end, index_long, index_bytes, same_bytes, index_fault}
use Rattle.statements.specs.Calls.{mask_fault, book_room, drop_room, room_fault, make_fault, alike, lent_fault}
use Rattle.statements.specs.Calls.{withdraw_fault, told_of, number_told, by_index, indexing_fault}
use Rattle.statements.specs.Marked.{plant_p, plant_loop, book_p, lost_row, book_m1, book_m2, all_lost, plant_still}
use Rattle.statements.specs.MarkedStages.{plant_detour}
use Rattle.statements.specs.MarkedIndex.{index_p, index_falling, MarkedIndex, AnsweredIndex}

pub marked_index : MarkedIndex
unfolding joined word words arrows_from plant_of head_ok labels_ok rank arrows_ok plant_fault two bytes_of arrows_to by_end index_long index_bytes same_bytes index_fault plant_p plant_still index_p index_falling
marked_index =
    record {
      accepted = refl;
      bytes = refl;
      fine = refl;
      ties_falling = refl;
      by_start = refl;
      longer = refl;
      shorter = refl;
      other_length = refl;
      still = refl;
      still_fine = refl;
    }

pub answered_index : AnsweredIndex
unfolding bit numbers every first joined iterate is_in all_in filter word words arrows_from plant_of head_ok labels_ok rank arrows_ok plant_fault allowed in_goal settled ends_in ends available goes_into move_into can grown target forced forced_all held_round held_within next_stage stages_to kept_within stages_before stage_of stage_after stage_for level wait_in wait_of nearer landing listed_move two book_long entry_of stage_part row_of head_of book_bytes book_states book_moves book_goals book_count book_mask book_total staged row_place entry_place row_long wait_at move_at stage_at stage_lost is_lost stage_held is_held book_kept mask_ok book_head_ok rows_ok book_fault less_mask book_within made_book kept_before withdrawn_book dropped_states mask_fault book_room drop_room room_fault make_fault alike lent_fault withdraw_fault told_of number_told bytes_of plant_p plant_loop book_p lost_row book_m1 book_m2 all_lost arrows_to by_end index_long index_bytes same_bytes index_fault by_index indexing_fault index_p index_falling plant_detour
answered_index =
    record {
      built = refl;
      short = refl;
      no_plant = refl;
      made = refl;
      made_book_lem = refl;
      made_list = refl;
      made_mask = refl;
      made_short = refl;
      withdrawn = record { accepted = refl; short_book = refl; short_list = refl; book = refl; list = refl };
      all_dropped = record { accepted = refl; short_book = refl; short_list = refl; book = refl; list = refl };
      withdrawn_book_lem = refl;
      withdrawn_mask = refl;
      settled = refl;
      settled_other = refl;
      made_falling = refl;
      withdrawn_falling = refl;
      withdrawn_none = refl;
      made_no_plant = refl;
      withdrawn_no_plant = refl;
      told_made = refl;
      told_withdrawn = refl;
      told_mask = refl;
    }
