-- The states kept from a start, and the front of a list. Assumes nothing.
use mathlib.Core.Path.{◌≡◌, ap}
use mathlib.Core.List.{List}
use Prim.Native.Nat.{ℕ, ◌≤◌}
use native.Mathlib.Omega.{arith}
use lib.ListN.{length, take, length-take}
use Rattle.statements.specs.Sets.{numbers, iterate}
use Rattle.statements.specs.Plants.{Plant}
use Rattle.statements.specs.Kept.{forced_all, held_round, held_within}
use Rattle.sets.proofs.Members.{Sifted}
use Rattle.solve.specs.Reached.{goes}
use Rattle.solve.specs.Rows.{kept_from, among}

-- a front that is as long as asked for is no longer than the list
pub take_fits : (n : ℕ) (xs : List ℕ) → length (take n xs) ≡ n → n ≤ length xs
take_fits n xs e = omega (arith, length-take n xs)

-- a set of states, and what is held of it
pub begun : (p : Plant) (mask : ℕ) (leave start : List ℕ) → Sifted (numbers p.states 0) start
    → kept_from p mask leave start ≡ held_within p mask (goes p leave) (among start)
unfolding kept_from held_within held_round among
begun p mask leave start set = ap (iterate p.states (forced_all p.goals p mask (goes p leave))) set
