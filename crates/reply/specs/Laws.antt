-- What is said of every answer, besides that it is `reply_to` of the input.
use Rattle.std.specs.Prelude.{◌≡◌, true, List, ℕ, ◌≤◌, length, take}
use Rattle.statements.specs.Plants.{plant_of, plant_fault}
use Rattle.statements.specs.Books.{mask_at, mask_ok, each_ok, made_book}
use Rattle.listing.specs.Text.{listing}
use Rattle.reply.specs.Reply.{plant_part, mask_part, masks_ok, other_masks, reply_to, served_by}

-- the first 51,281 bytes of an input decide the answer, and so do more of them
abbrev pub FirstDecide : Type 0
FirstDecide = (n : ℕ) (input : List ℕ) → 51281 ≤ n → reply_to (take n input) ≡ reply_to input

-- no answer is longer than 200,000 bytes
abbrev pub FewBytes : Type 0
FewBytes = (input : List ℕ) → length (reply_to input) ≤ 200000

-- for an accepted plant and good masks the answer is the listing of the book made afresh with the moves then in service
abbrev pub ListsAfresh : Type 0
ListsAfresh =
    (input : List ℕ) → plant_fault (plant_part input) ≡ 0 → masks_ok (mask_part input) ≡ true
    → let u = (plant_of (plant_part input)).moves in
    mask_ok u (mask_at (mask_part input) 0) ≡ true → each_ok u (other_masks (mask_part input)) ≡ true
    → reply_to input ≡ listing (made_book (plant_of (plant_part input)) (served_by (mask_part input)))
