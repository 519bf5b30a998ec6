-- Marked examples for the index of request (viii), and for the calls by it. Plants and indexes are written as their
-- two-byte numbers.
use Rattle.std.specs.Prelude.{◌≡◌, List, [], ◌∷◌, ◌++◌, ℕ, take}
use Rattle.statements.specs.Plants.{plant_fault, plant_of}
use Rattle.statements.specs.Books.{bytes_of}
use Rattle.statements.specs.Index.{index_bytes, index_fault}
use Rattle.statements.specs.Calls.{indexing_fault, Ask, makes_by, withdraws_by, effect_of, number_told}
use Rattle.statements.specs.Marked.{plant_p, plant_still, plant_loop, book_m1, book_m2, all_lost, Does}
use Rattle.statements.specs.MarkedStages.{plant_detour}

-- the index of P: two arrows end in state 0, three in state 1, two in state 2 and one in state 3
unfoldable pub index_p : List ℕ
index_p = bytes_of (4 ∷ 8 ∷ 8 ∷ 24 ∷ 5 ∷ 6 ∷ 0 ∷ 1 ∷ 7 ∷ 2 ∷ 3 ∷ 4 ∷ [])

-- the same with the two arrows that end in state 0 in falling order
unfoldable pub index_falling : List ℕ
index_falling = bytes_of (4 ∷ 8 ∷ 8 ∷ 24 ∷ 6 ∷ 5 ∷ 0 ∷ 1 ∷ 7 ∷ 2 ∷ 3 ∷ 4 ∷ [])

pub record MarkedIndex : Type 0 where
  pub accepted : plant_fault plant_p ≡ 0
  pub bytes : index_bytes (plant_of plant_p) ≡ index_p
  pub fine : index_fault (plant_of plant_p) index_p ≡ 0
  -- those two in falling order, and all arrows in stored order, that is by where they start
  pub ties_falling : index_fault (plant_of plant_p) index_falling ≡ 10
  pub by_start : index_fault (plant_of plant_p) (bytes_of (4 ∷ 8 ∷ 8 ∷ 24 ∷ 0 ∷ 1 ∷ 2 ∷ 3 ∷ 4 ∷ 5 ∷ 6 ∷ 7 ∷ [])) ≡ 10
  -- one byte more, one less, and another length in the header
  pub longer : index_fault (plant_of plant_p) (index_p ++ (0 ∷ [])) ≡ 10
  pub shorter : index_fault (plant_of plant_p) (take 23 index_p) ≡ 10
  pub other_length : index_fault (plant_of plant_p) (bytes_of (4 ∷ 8 ∷ 8 ∷ 16 ∷ 5 ∷ 6 ∷ 0 ∷ 1 ∷ 7 ∷ 2 ∷ 3 ∷ 4 ∷ [])) ≡ 10
  -- a plant without arrows: the header alone
  pub still : index_bytes (plant_of plant_still) ≡ bytes_of (1 ∷ 0 ∷ 8 ∷ 8 ∷ [])
  pub still_fine : index_fault (plant_of plant_still) (bytes_of (1 ∷ 0 ∷ 8 ∷ 8 ∷ [])) ≡ 0

-- the number told from a call on P alone, with buffers of no length
abbrev told_p : Ask → ℕ
told_p asked = number_told (plant_of plant_p) (record { ask = asked; room = 0; drops = 0 })

-- what the calls answer
pub record AnsweredIndex : Type 0 where
  -- building it with just its length, and with a byte less; a bad label first
  pub built : indexing_fault plant_p 24 ≡ 0
  pub short : indexing_fault plant_p 23 ≡ 7
  pub no_plant : indexing_fault (plant_loop 8) 0 ≡ 2
  -- by P's index: M1, and its refusals; M2 and M3
  pub made : (effect_of plant_p [] (makes_by index_p 7)).number 48 0 ≡ 0
  pub made_book_lem : (effect_of plant_p [] (makes_by index_p 7)).book ≡ book_m1
  pub made_list : (effect_of plant_p [] (makes_by index_p 7)).list ≡ []
  pub made_mask : (effect_of plant_p [] (makes_by index_p 8)).number 0 0 ≡ 6
  pub made_short : (effect_of plant_p [] (makes_by index_p 7)).number 47 0 ≡ 7
  pub withdrawn : Does book_m1 (withdraws_by index_p 4) book_m2 []
  pub all_dropped : Does book_m1 (withdraws_by index_p 1) (all_lost 6) (0 ∷ 1 ∷ 2 ∷ [])
  pub withdrawn_book_lem : (effect_of plant_p [] (withdraws_by index_p 8)).number 0 0 ≡ 4
  pub withdrawn_mask : (effect_of plant_p book_m1 (withdraws_by index_p 8)).number 0 0 ≡ 6
  -- in a plant that settles
  pub settled : (effect_of plant_detour [] (makes_by (index_bytes (plant_of plant_detour)) 3)).number 40 0 ≡ 0
  pub settled_other : (effect_of plant_detour [] (makes_by index_p 3)).number 40 0 ≡ 10
  -- by bytes that are not the index: 10, though the mask is bad, the book none and the buffers short
  pub made_falling : (effect_of plant_p [] (makes_by index_falling 8)).number 0 0 ≡ 10
  pub withdrawn_falling : (effect_of plant_p [] (withdraws_by index_falling 8)).number 0 0 ≡ 10
  pub withdrawn_none : (effect_of plant_p book_m1 (withdraws_by [] 4)).number 48 8 ≡ 10
  -- but a bad label first
  pub made_no_plant : (effect_of (plant_loop 8) [] (makes_by [] 0)).number 0 0 ≡ 2
  pub withdrawn_no_plant : (effect_of (plant_loop 8) [] (withdraws_by [] 0)).number 0 0 ≡ 2
  -- so it is told from the calls alone
  pub told_made : told_p (makes_by index_falling 8) ≡ 10
  pub told_withdrawn : told_p (withdraws_by index_falling 8) ≡ 10
  pub told_mask : told_p (withdraws_by index_p 8) ≡ 6
