-- What `planbook` answers, as a function from the bytes it reads to the bytes it prints. The input is a plant and then
-- 1 to 16 four-byte masks; the first makes a book, the others withdraw from it in turn.
use Rattle.std.specs.Prelude.{Bool, ◌&&◌, List, ℕ, ◌-◌, ◌/◌, ◌%◌, eqb, leb, length, take, drop}
use Rattle.statements.specs.Sets.{pick}
use Rattle.statements.specs.Plants.{word, Plant, plant_of, plant_fault}
use Rattle.statements.specs.Books.{mask_at, mask_ok, each_ok, less_mask, made_book, masks_in, union_of, withdrawn_in_turn}
use Rattle.listing.specs.Text.{listing, refused_text, bad_masks_text}

-- the plant's bytes: they end where the header's total length says
unfoldable pub plant_part : List ℕ → List ℕ
plant_part input = take (word 6 input) input

-- the masks' bytes: all that follow
unfoldable pub mask_part : List ℕ → List ℕ
mask_part input = drop (word 6 input) input

-- the bytes of 1 to 16 masks, none of them cut
unfoldable pub masks_ok : List ℕ → Bool
masks_ok m = leb 4 (length m) && (leb (length m) 64 && eqb (length m % 4) 0)

-- what masks come to: a refusal with its number, or the last book
pub data Outcome : Type 0 where
  refused : ℕ → Outcome
  lists : List ℕ → Outcome

-- the masks after the first
unfoldable pub other_masks : List ℕ → List ℕ
other_masks m = masks_in (length m / 4 - 1) (drop 4 m)

-- the masks in turn: the first makes, the others withdraw; one with a bit at U or above is refused with 6
unfoldable pub in_turn : Plant → List ℕ → Outcome
in_turn p m =
    pick (mask_ok p.moves (mask_at m 0) && each_ok p.moves (other_masks m))
    (lists (withdrawn_in_turn p (made_book p (mask_at m 0)) (other_masks m))) (refused 6)

-- the text of an outcome
unfoldable pub outcome_text : Outcome → List ℕ
outcome_text (refused n) = refused_text n
outcome_text (lists b) = listing b

-- the answer for an accepted plant
unfoldable pub masks_text : Plant → List ℕ → List ℕ
masks_text p m = pick (masks_ok m) (outcome_text (in_turn p m)) bad_masks_text

-- the answer: a refused plant's number, and otherwise what the masks come to
unfoldable pub reply_to : List ℕ → List ℕ
reply_to input =
    let s = plant_part input in
    pick (eqb (plant_fault s) 0) (masks_text (plant_of s) (mask_part input)) (refused_text (plant_fault s))

-- the moves in service after all the masks, told from them alone
unfoldable pub served_by : List ℕ → ℕ
served_by m = less_mask (mask_at m 0) (union_of (other_masks m))
