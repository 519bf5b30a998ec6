-- Values are gathered by the index of an accepted plant and by no other bytes, and then from all its numbers. Assumes
-- nothing.
use mathlib.Core.Path.{◌≡◌, refl, ap, ap₂, ◌∙◌}
use mathlib.Core.Bool.{Bool, true, false, ◌&&◌}
use mathlib.Core.List.{List, [], ◌∷◌}
use Prim.Native.Nat.{ℕ, suc, ◌<◌, ◌≤◌}
use native.Mathlib.Omega.{arith}
use borrow.Author.Tests.{le-leb}
use lib.Dec.{ltb, leb}
use lib.ListN.{length, get_or}
use Rattle.statements.specs.Sets.{pick}
use Rattle.statements.specs.Plants.{word, Plant, plant_of, plant_fault}
use Rattle.statements.specs.Index.{index_bytes, same_bytes}
use Rattle.sets.proofs.Tests.{and_left, and_right}
use Rattle.decoding.proofs.Faults.{plant_tests}
use Rattle.decoding.proofs.Order.{arrows_length}
use Rattle.index.specs.Checked.{key_of, climbs, opens_well, numbers_in, ascends}
use Rattle.index.specs.Gathered.{climbed, ready, gathers}
use Rattle.index.proofs.Exact.{ascends_exactly}

-- numbers that climb do so to the last
pub climbed_all : (p : Plant) (least : ℕ) (ns : List ℕ) → climbs p least ns ≡ true → climbed p least ns ≡ ns
unfolding climbs climbed
climbed_all p least [] h = refl
climbed_all p least (n ∷ ns) h =
    let test = ltb n (length p.arrows) && leb least (key_of p n) in
    ap₂ (λ (b : Bool) (xs : List ℕ). pick b (n ∷ xs) []) (and_left test _ h)
    (climbed_all p (suc (key_of p n)) ns (and_right test _ h))

-- the order of the tests does not matter
swapped : (a b c : Bool) → ((a && b) && c) ≡ ((a && c) && b)
swapped true true true = refl
swapped true true false = refl
swapped true false true = refl
swapped true false false = refl
swapped false b c = refl

-- where there is room, values are gathered by the plant's index, and by no other bytes
pub gathers_exactly : (s : List ℕ) → plant_fault s ≡ 0 → (index by out : List ℕ) → ((k : ℕ) → get_or index k 0 < 256)
    → let e = length (plant_of s).arrows in
    gathers s index by out
    ≡ (same_bytes index (index_bytes (plant_of s)) && (leb e (length by) && leb e (length out)))
unfolding gathers ready ascends
gathers_exactly s fine index by out bytes =
    let p = plant_of s in
    let e = length p.arrows in
    let room = leb e (length by) && leb e (length out) in
    rw (plant_tests s fine).0
    (swapped (opens_well p.states e index) room (climbs p 0 (numbers_in p index))
    ∙ ap (λ (b : Bool). b && room) (ascends_exactly s fine index bytes))

pub and_on : (b : Bool) → (b && true) ≡ b
and_on true = refl
and_on false = refl

-- so with room for all arrows the bytes are the plant's index just where all is gathered
pub gathered : (s index by out : List ℕ) {good : Bool} → ((k : ℕ) → get_or index k 0 < 256)
    → good ≡ gathers s index by out → plant_fault s ≡ 0 → word 3 s ≤ length by → word 3 s ≤ length out
    → good ≡ same_bytes index (index_bytes (plant_of s))
gathered s index by out bytes e fine by_room room =
    let many = length (plant_of s).arrows in
    let few = arrows_length s in
    e
    ∙ gathers_exactly s fine index by out bytes
    ∙ rw (le-leb many (length by) (omega (arith, few)), le-leb many (length out) (omega (arith, few)))
    (and_on (same_bytes index (index_bytes (plant_of s))))
