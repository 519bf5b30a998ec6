-- Labels: those of an accepted plant have no bit 15, and with it their goal bits are the same. Assumes nothing.
use mathlib.Core.Path.{◌≡◌, ap}
use mathlib.Core.Bool.{Bool, true, false}
use mathlib.Core.List.{List, [], ◌∷◌}
use Prim.Native.Nat.{ℕ, zero, suc, ◌+◌, ◌-◌, ◌/◌, ◌%◌, ◌^◌, ◌≤◌, ◌<◌}
use native.Mathlib.Omega.{arith}
use borrow.Author.Tests.{ltb-true, eq-eqb, ne_eqb}
use lib.Bits.{bit_and, and_le_r}
use lib.Dec.{eqb, ltb}
use lib.ListN.{get_or}
use lib.Pow.{pow_mono}
use Rattle.statements.specs.Sets.{pick, bit}
use Rattle.statements.specs.Plants.{Plant, labels_ok}
use Rattle.sets.proofs.Tests.{and_left, and_right}
use Rattle.decoding.proofs.Faults.{PlantOk}

-- a number less its bit 9 that is below 512
low : (settles : Bool) (l : ℕ) → pick settles (l - bit_and l 512) l < 512 → l < 1024
low true l h = omega (arith, and_le_r l 512)
low false l h = omega arith

all_low : (settles : Bool) (n : ℕ) → n ≤ 8 → (ls : List ℕ) → labels_ok settles n ls ≡ true → (x : ℕ) → get_or ls x 0 < 1024
unfolding labels_ok
all_low settles n few [] h x = omega arith
all_low settles n few (l ∷ ls) h zero =
    let few_bits : suc n ≤ 9 = omega arith in
    let most : 2 ^ suc n ≤ 2 ^ 9 = pow_mono few_bits in
    let small =
    ltb-true (pick settles (l - bit_and l 512) l) (2 ^ suc n)
    (and_left (ltb (pick settles (l - bit_and l 512) l) (2 ^ suc n)) _ h) in
    low settles l (omega arith)
all_low settles n few (l ∷ ls) h (suc x) =
    all_low settles n few ls (and_right (ltb (pick settles (l - bit_and l 512) l) (2 ^ suc n)) _ h) x

-- a label of an accepted plant
pub label_low : (p : Plant) → PlantOk p → (x : ℕ) → get_or p.labels x 0 < 1024
label_low p ok x = all_low p.settles p.goals ok.sizes.goals_most p.labels ok.labels_ok_lem x

-- its bit 15, set or not
pub exit_bit : (l : ℕ) (b : Bool) → l < 1024 → bit 15 (l + pick b 32768 0) ≡ b
unfolding bit
exit_bit l true h = eq-eqb ((l + 32768) / 2 ^ 15 % 2) 1 (omega arith)
exit_bit l false h = ne_eqb ((l + 0) / 2 ^ 15 % 2) 1 (λ e. omega arith)

-- leaves its goal bits alone
pub goal_bit : (l : ℕ) (b : Bool) → l < 1024 → (i : ℕ) → i < 8 → bit (suc i) (l + pick b 32768 0) ≡ bit (suc i) l
unfolding bit
goal_bit l true h i k = ap (λ (v : ℕ). eqb v 1) (same i k)
  where
    same : (j : ℕ) → j < 8 → (l + 32768) / 2 ^ suc j % 2 ≡ l / 2 ^ suc j % 2
    same zero m = omega arith
    same (suc zero) m = omega arith
    same (suc (suc zero)) m = omega arith
    same (suc (suc (suc zero))) m = omega arith
    same (suc (suc (suc (suc zero)))) m = omega arith
    same (suc (suc (suc (suc (suc zero))))) m = omega arith
    same (suc (suc (suc (suc (suc (suc zero)))))) m = omega arith
    same (suc (suc (suc (suc (suc (suc (suc zero))))))) m = omega arith
    same (suc (suc (suc (suc (suc (suc (suc (suc j)))))))) m = absurd (omega arith)
goal_bit l false h i k = ap (bit (suc i)) (omega arith)
