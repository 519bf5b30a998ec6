-- Bytes of the input past the first 51,281 do not change the answer: after the longest plant they are too many masks.
-- So the program need read no more. Assumes nothing.
use mathlib.Core.Path.{◌≡◌, refl, sym, ap, ◌∙◌}
use mathlib.Core.Logic.{inl, inr}
use mathlib.Core.Bool.{true, false}
use mathlib.Core.List.{List}
use Prim.Native.Nat.{ℕ, ◌≤◌, ◌<◌}
use native.Mathlib.Decide.{dec_le}
use native.Mathlib.Omega.{arith}
use lib.ListN.{length, take, drop, length-drop}
use lib.Seq.{take_all, take-take, get_or-take, length-take-le}
use borrow.Author.Tests.{leb-true, eqb-true, le-leb, lt-leb}
use Rattle.statements.specs.Plants.{word, head_ok, plant_fault}
use Rattle.sets.proofs.Tests.{decided, same_number}
use Rattle.sets.proofs.Tests.{and_iff}
use Rattle.decoding.proofs.Faults.{plant_tests}
use Rattle.reply.specs.Reply.{plant_part, mask_part, masks_ok, reply_to}
use Rattle.reply.specs.Laws.{FirstDecide}
use Rattle.reply.proofs.Parts.{plant_refused, masks_bad}

-- a header that is good says at most 51,216 bytes
head_short : (s : List ℕ) → head_ok s ≡ true → (word 6 s ≤ 51216) × (length s ≡ word 6 s)
unfolding head_ok
head_short s h = let tests = simp and_iff at h in (omega (arith, leb-true, eqb-true), omega (arith, eqb-true))

-- one that says more is refused
head_long : (s : List ℕ) → 51216 < word 6 s → plant_fault s ≡ 1
unfolding plant_fault
head_long s h =
    elim (decided (head_ok s)) [
      | inl e ↦ absurd (omega (arith, (head_short s e).0))
      | inr e ↦ rw e
    ]

-- more than 64 bytes are bad masks
many : (m : List ℕ) → 64 < length m → masks_ok m ≡ false
unfolding masks_ok
many m h = rw (le-leb 4 (length m) (omega arith), lt-leb (length m) 64 h)

-- the header's total length in the first bytes
word_take : (n : ℕ) (s : List ℕ) → 16 ≤ n → word 6 (take n s) ≡ word 6 s
unfolding word
word_take n s h = rw (get_or-take n s 12 0 (omega arith), get_or-take n s 13 0 (omega arith))

module _ (n : ℕ) (input : List ℕ) (most : 51281 ≤ n) (longer : n < length input) where
  -- the first bytes
  abbrev Cut : List ℕ
  Cut = take n input

  -- they have the header, and so the total length
  same_total : word 6 Cut ≡ word 6 input
  same_total = word_take n input (omega arith)

  -- the plant ends within the first bytes: it is the same, and if it is accepted both have too many masks
  module _ (ends : word 6 input ≤ n) where
    -- the plant is the same
    same_plant : plant_part Cut ≡ plant_part input
    unfolding plant_part
    same_plant = rw same_total (take-take (word 6 input) n input ends)

    -- what follows a plant that is not too long is too many masks
    too_many : (i : List ℕ) → word 6 i ≤ 51216 → n ≤ length i → masks_ok (mask_part i) ≡ false
    unfolding mask_part
    too_many i h l = many (drop (word 6 i) i) (simp length-drop (omega arith))

    -- an accepted plant is not too long
    short : plant_fault (plant_part input) ≡ 0 → word 6 input ≤ 51216
    unfolding plant_part
    short h =
        let s = take (word 6 input) input in
        let ok = head_short s (plant_tests s h).0 in
        omega (arith, length-take-le (word 6 input) input (omega arith))

    -- the same answer
    ends_same : reply_to Cut ≡ reply_to input
    ends_same =
        elim (same_number (plant_fault (plant_part input)) 0) [
          | inl e ↦
              let few = short e in
              let cut_long = length-take-le n input (omega arith) in
              masks_bad Cut (ap plant_fault same_plant ∙ e) (too_many Cut (omega (arith, same_total)) (omega arith)) ∙
              sym (masks_bad input e (too_many input few (omega arith)))
          | inr e ↦ plant_refused Cut (ap plant_fault same_plant) e ∙ sym (plant_refused input refl e)
        ]

  -- it does not: both are refused with 1
  module _ (past : n < word 6 input) where
    -- a total length past the first bytes is refused
    one : (i : List ℕ) → word 6 i ≡ word 6 input → plant_fault (plant_part i) ≡ 1
    unfolding plant_part
    one i e =
        let here : word 6 (take (word 6 i) i) ≡ word 6 i = word_take (word 6 i) i (omega arith) in
        head_long (take (word 6 i) i) (omega arith)

    -- the same answer
    past_same : reply_to Cut ≡ reply_to input
    past_same =
        plant_refused Cut (one Cut same_total) (λ z. omega arith) ∙
        sym (plant_refused input (one input refl) (λ z. omega arith))

-- the answer for the first bytes is the answer
pub reply_first : FirstDecide
reply_first n input most =
    elim (dec_le (length input) n) [
      | yes short ↦ ap reply_to (take_all n input short)
      | no long ↦
          elim (dec_le (word 6 input) n) [
            | yes ends ↦ ends_same n input most (omega arith) ends
            | no past ↦ past_same n input most (omega arith) (omega arith)
          ]
    ]
