-- Demand 3 of the book that is listed: it is that of a making afresh with the moves in service, told from the masks
-- alone. Assumes nothing.
use mathlib.Core.Path.{◌≡◌, ap, ◌∙◌}
use mathlib.Core.Bool.{true}
use mathlib.Core.List.{List}
use Prim.Native.Nat.{ℕ}
use Rattle.statements.specs.Plants.{Plant, plant_of}
use Rattle.statements.specs.Books.{mask_at, mask_ok, each_ok, made_book}
use Rattle.decoding.proofs.Faults.{PlantOk, plant_ok}
use Rattle.demands.proofs.Afresh.{in_turn_afresh}
use Rattle.reply.specs.Reply.{plant_part, mask_part, lists, other_masks, in_turn, outcome_text}
use Rattle.reply.specs.Reply.{served_by}
use Rattle.reply.specs.Laws.{ListsAfresh}
use Rattle.reply.proofs.Parts.{masks_good}

-- the masks in turn, all of them good
module _ (p : Plant) (ok : PlantOk p) (m : List ℕ) (first : mask_ok p.moves (mask_at m 0) ≡ true)
    (others : each_ok p.moves (other_masks m) ≡ true) where
  pub turned_afresh : in_turn p m ≡ lists (made_book p (served_by m))
  unfolding in_turn served_by
  turned_afresh = rw (first, others) (ap lists (in_turn_afresh p ok (mask_at m 0) first (other_masks m)))

-- so the answer for good masks is the listing of that book
pub reply_afresh : ListsAfresh
unfolding outcome_text
reply_afresh input accepted good first others =
    masks_good input accepted good
    ∙ ap outcome_text
    (turned_afresh (plant_of (plant_part input)) (plant_ok (plant_part input) accepted) (mask_part input) first others)
