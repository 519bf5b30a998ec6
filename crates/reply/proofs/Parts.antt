-- Where the plant ends in the input, and the answer case by case: a refused plant, bad masks, good masks.
-- Assumes nothing.
use mathlib.Core.Path.{◌≡◌, refl, sym, ap, ◌∙◌}
use mathlib.Core.Logic.{inl, inr}
use mathlib.Core.Bool.{true, false, ◌&&◌}
use mathlib.Core.List.{List, [], ◌∷◌}
use Prim.Native.Nat.{ℕ, zero, suc, ◌-◌, ◌≤◌, min}
use native.Mathlib.Decide.{dec_lt}
use native.Mathlib.Omega.{arith}
use lib.ListN.{length, take, drop}
use lib.Seq.{take_all}
use borrow.Author.Tests.{eq-eqb, ne_eqb}
use Rattle.statements.specs.Plants.{word, plant_of, plant_fault, head_ok}
use Rattle.statements.specs.Books.{book_long}
use Rattle.sets.proofs.Tests.{decided, not_both, same_number, and_true}
use Rattle.decoding.proofs.Sizes.{long_most}
use Rattle.decoding.proofs.Faults.{plant_tests}
use Rattle.format.proofs.Header.{plant_head}
use Rattle.format.proofs.Unions.{rest_is}
use Rattle.listing.specs.Text.{listing, refused_text, bad_masks_text}
use Rattle.listing.specs.Buffers.{placed, placed_long}
use Rattle.reply.specs.Reply.{plant_part, mask_part, masks_ok, Outcome, in_turn, outcome_text, masks_text, reply_to}
use Rattle.reply.specs.Steps.{Parted, outcome_of, bad_text, came_to, Told}

-- the books of a plant with a good header are no longer than the longest
pub head_long : (s : List ℕ) → head_ok s ≡ true
    → book_long (plant_of s).settles (plant_of s).states (plant_of s).goals ≤ 34832
unfolding plant_of
head_long s h = long_most (plant_head s h).sizes (plant_of s).settles

-- nothing is left past the end
drop_all : (n : ℕ) (xs : List ℕ) → length xs ≤ n → drop n xs ≡ []
drop_all zero [] h = refl
drop_all zero (x ∷ xs) h = absurd (omega arith)
drop_all (suc n) [] h = refl
drop_all (suc n) (x ∷ xs) h = drop_all n xs (omega arith)

-- the plant ends where its header says, or with the input
pub parted : (input : List ℕ) (total end : ℕ) → total ≡ word 6 input → end ≡ min total (length input) → Parted input end
unfolding plant_part mask_part
parted input total end e h =
    elim (dec_lt (length input) total) [
      | no within ↦
          let same : end ≡ word 6 input = omega arith in
          record { within = omega arith; plant = ap (λ (n : ℕ). take n input) same; masks = ap (λ (n : ℕ). drop n input) same }
      | yes cut ↦
          let all : end ≡ length input = omega arith in
          let short : length input ≤ word 6 input = omega arith in
          record {
            within = omega arith;
            plant = take_all end input (omega arith) ∙ sym (take_all (word 6 input) input short);
            masks = drop_all end input (omega arith) ∙ sym (drop_all (word 6 input) input short);
          }
    ]

-- the answer, case by case
module _ (input : List ℕ) where
  -- a refused plant
  pub plant_refused : {r : ℕ} → plant_fault (plant_part input) ≡ r → (r ≡ 0 → ⊥) → reply_to input ≡ refused_text r
  unfolding reply_to
  plant_refused {r} e h = rw (e, ne_eqb r 0 h)

  module _ (accepted : plant_fault (plant_part input) ≡ 0) where
    -- bad masks after an accepted plant
    pub masks_bad : masks_ok (mask_part input) ≡ false → reply_to input ≡ bad_masks_text
    unfolding reply_to masks_text
    masks_bad bad = rw (eq-eqb _ _ accepted, bad)

    -- good masks
    pub masks_good : masks_ok (mask_part input) ≡ true
        → reply_to input ≡ outcome_text (in_turn (plant_of (plant_part input)) (mask_part input))
    unfolding reply_to masks_text
    masks_good good = rw (eq-eqb _ _ accepted, good)

  -- masks that are bad, or a plant that is refused
  bad_either : (masks_ok (mask_part input) ≡ true → plant_fault (plant_part input) ≡ 0 → ⊥)
      → reply_to input ≡ bad_text (plant_part input)
  unfolding bad_text
  bad_either h =
      elim (same_number (plant_fault (plant_part input)) 0) [
        | inl z ↦
            elim (decided (masks_ok (mask_part input))) [
              | inl t ↦ absurd (h t z)
              | inr f ↦ rw (eq-eqb _ _ z) (masks_bad z f)
            ]
        | inr p ↦ rw (ne_eqb _ _ p) (plant_refused refl p)
      ]

  -- good masks
  good_either : masks_ok (mask_part input) ≡ true
      → reply_to input ≡ outcome_text (outcome_of (plant_part input) (mask_part input))
  unfolding outcome_of outcome_text
  good_either t =
      elim (same_number (plant_fault (plant_part input)) 0) [
        | inl z ↦ rw (eq-eqb _ _ z) (masks_good z t)
        | inr p ↦ rw (ne_eqb _ _ p) (plant_refused refl p)
      ]

-- the same of the parts that the code takes
module _ {input : List ℕ} {end : ℕ} (parted : Parted input end) where
  -- the rest of the input
  abbrev Rest : List ℕ
  Rest = take (length input - end) (drop end input)

  -- it is the masks' part
  rest_masks : Rest ≡ mask_part input
  rest_masks = rest_is input end ∙ parted.masks

  -- the header is bad, or the masks are
  pub reply_unfit : (head_ok (take end input) && masks_ok Rest) ≡ false → reply_to input ≡ bad_text (take end input)
  reply_unfit f =
      rw parted.plant
      (bad_either input
      (λ t z. not_both (and_true (plant_tests (plant_part input) z).0 t) (rw (parted.plant, rest_masks) at f)))

  -- good masks
  pub reply_good : masks_ok Rest ≡ true → reply_to input ≡ outcome_text (outcome_of (take end input) Rest)
  reply_good good =
      rw (parted.plant, rest_masks) (good_either input (sym (ap masks_ok rest_masks) ∙ good))

-- the text of what the masks come to: a refusal
pub text_refused : {t : Outcome} {r : ℕ} (b : List ℕ) → t ≡ came_to r b → (r ≡ 0 → ⊥) → outcome_text t ≡ refused_text r
unfolding outcome_text came_to
text_refused {t} {r} b e h = rw (e, ne_eqb r 0 h)

-- or the last book's listing
pub text_listed : {t : Outcome} {r : ℕ} (b : List ℕ) → t ≡ came_to r b → r ≡ 0 → outcome_text t ≡ listing b
unfolding outcome_text came_to
text_listed {t} {r} b e h = rw (e, h)

-- what is written of such a text
pub told : {s m o o' : List ℕ} {r : ℕ} (text : List ℕ) → outcome_text (outcome_of s m) ≡ text
    → (r ≡ placed_long text o) × (o' ≡ placed text o) → Told s m o r o'
told text e h = record { long = rw e h.0; bytes = rw e h.1 }
