-- A text put at a place of a buffer part by part: the parts so far, and the next. Every writer's proof is these laws.
-- Assumes nothing.
use mathlib.Core.Path.{◌≡◌, refl, ap, ◌∙◌}
use mathlib.Core.List.{List, [], ◌∷◌, ◌++◌}
use Prim.Native.Nat.{ℕ, suc, ◌+◌, ◌-◌, ◌≤◌, ◌<◌}
use native.Mathlib.Nat.{zero-add}
use native.Mathlib.Numerals.{add-one}
use native.Mathlib.Omega.{arith}
use lib.ListN.{length, get_or, take, length-append}
use lib.Seq.{sets, sets-eq, length-sets, take-suc, length-take-le}
use borrow.Author.Tests.{le-leb, lt-leb}
use Rattle.statements.specs.Sets.{joined, over}
use Rattle.sets.proofs.Over.{sets_append}
use Rattle.sets.proofs.Joined.{joined_more, joined_split}
use Rattle.listing.specs.Buffers.{has_room, placed, placed_long, Wrote}

-- an empty text changes nothing
pub wrote_none : (o : List ℕ) (at : ℕ) → Wrote o at [] at o
wrote_none o at = record { place = omega arith; bytes = refl }

-- two texts, one after the other
pub wrote_then : {o₁ o₂ o₃ : List ℕ} {at₁ at₂ at₃ : ℕ} {xs ys : List ℕ} → Wrote o₁ at₁ xs at₂ o₂
    → Wrote o₂ at₂ ys at₃ o₃ → Wrote o₁ at₁ (xs ++ ys) at₃ o₃
wrote_then {o₁} {o₂} {o₃} {at₁} {at₂} {at₃} {xs} {ys} w v =
    record {
      place = omega (arith, w.place, v.place, length-append xs ys);
      bytes = v.bytes ∙ rw (w.bytes, w.place) (sets_append o₁ at₁ xs ys);
    }

-- a buffer keeps its length
pub wrote_same : {o o₂ : List ℕ} {at at₂ : ℕ} {xs : List ℕ} → Wrote o at xs at₂ o₂ → length o₂ ≡ length o
wrote_same {o} {o₂} {at} {at₂} {xs} w = ap length w.bytes ∙ length-sets o at xs

-- the first bytes of a text, and the next one
pub text_more : (text : List ℕ) (i : ℕ) {o o₂ o₃ : List ℕ} {at at₂ at₃ : ℕ} → i < length text
    → Wrote o at (take i text) at₂ o₂ → Wrote o₂ at₂ (get_or text i 0 ∷ []) at₃ o₃ → Wrote o at (take (i + 1) text) at₃ o₃
text_more text i h w v =
    let next : take (i + 1) text ≡ take i text ++ (get_or text i 0 ∷ []) = rw (add-one i) (take-suc text i 0 h) in
    rw next (wrote_then w v)

-- it fits, where the whole text does
pub text_room : (text : List ℕ) (i limit : ℕ) {o o₂ : List ℕ} {at at₂ : ℕ} → i < length text
    → Wrote o at (take i text) at₂ o₂ → at + length text < limit → at₂ + 1 < limit
text_room text i limit h w room = omega (arith, w.place, length-take-le i text (omega arith))

-- the first parts, and the next one
pub joined_turn : (part : ℕ → List ℕ) (i : ℕ) {o o₂ o₃ : List ℕ} {at at₂ at₃ : ℕ}
    → Wrote o at (joined i 0 part) at₂ o₂ → Wrote o₂ at₂ (part i) at₃ o₃ → Wrote o at (joined (i + 1) 0 part) at₃ o₃
joined_turn part i w v =
    let same : 0 + i ≡ i = omega arith in
    rw (add-one i, joined_more part i 0, same) (wrote_then w v)

-- it fits, where all parts do
pub joined_room : (part : ℕ → List ℕ) (n i limit : ℕ) {o o₂ : List ℕ} {at at₂ : ℕ} → i < n
    → Wrote o at (joined i 0 part) at₂ o₂ → at + length (joined n 0 part) < limit → at₂ + length (part i) < limit
joined_room part n i limit h w room =
    let most : n ≡ suc i + (n - suc i) = omega arith in
    let same : 0 + i ≡ i = omega arith in
    let all = ap (λ k. joined k 0 part) most ∙ joined_split part (suc i) (n - suc i) 0 in
    let next = joined_more part i 0 ∙ ap (λ k. joined i 0 part ++ part k) same in
    omega (
      arith,
      w.place,
      ap length all,
      length-append (joined (suc i) 0 part) (joined (n - suc i) (0 + suc i) part),
      ap length next,
      length-append (joined i 0 part) (part i),
    )

-- a text that fits and was put from the first byte on
pub placed_whole : {text o after : List ℕ} {next : ℕ} → Wrote o 0 text next after → length text ≤ length o
    → (next ≡ placed_long text o) × (after ≡ placed text o)
unfolding has_room placed placed_long over
placed_whole {text} {o} w h =
    let room = le-leb (length text) (length o) h in (
      w.place ∙ zero-add (length text) ∙ rw room,
      w.bytes ∙ sets-eq text o 0 (omega arith) ∙ rw (room, zero-add),
    )

-- a text that does not fit
pub placed_none : (text o : List ℕ) → length o < length text → (0 ≡ placed_long text o) × (o ≡ placed text o)
unfolding has_room placed placed_long
placed_none text o h = let room = lt-leb (length text) (length o) h in (rw room, rw room)

-- an empty text is always placed, and changes nothing
pub placed_empty : (o : List ℕ) → (0 ≡ placed_long [] o) × (o ≡ placed [] o)
placed_empty o =
    placed_whole (wrote_none o 0) (omega arith)

-- a writer that had no room at all leaves no byte
counted : {text last : List ℕ} {long : ℕ} → Wrote [] 0 text long last → last ≡ []
counted {text} {last} w = w.bytes ∙ nowhere 0 text
  where
    nowhere : (at : ℕ) (xs : List ℕ) → sets [] at xs ≡ []
    nowhere at [] = refl
    nowhere at (x ∷ xs) = nowhere (suc at) xs

-- a text whose count was too large for the buffer
pub counted_short : (o : List ℕ) {text last : List ℕ} {long : ℕ} → Wrote [] 0 text long last
    → length (last ++ o) < long → (0 ≡ placed_long text o) × (last ++ o ≡ placed text o)
counted_short o {text} w short =
    let none = counted w in
    let h = rw none at short in
    rw none (placed_none text o (omega (arith, w.place)))

-- a text whose count was not too large, and that was then put
pub counted_whole : (o : List ℕ) {text last after : List ℕ} {long next : ℕ} → Wrote [] 0 text long last
    → long ≤ length (last ++ o) → Wrote (last ++ o) 0 text next after
    → (next ≡ placed_long text o) × (after ≡ placed text o)
counted_whole o {text} w room v =
    let none = counted w in
    let h = rw none at room in
    placed_whole (rw none at v) (omega (arith, w.place))
