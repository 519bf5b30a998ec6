-- A plant's answers, as the first check that fails gives them. Assumes nothing.
use mathlib.Core.Path.{◌≡◌}
use mathlib.Core.Bool.{true, false}
use mathlib.Core.List.{List}
use Prim.Native.Nat.{ℕ}
use Rattle.format.specs.Checks.{labels_fine, arrows_fine}
use Rattle.statements.specs.Plants.{plant_of, head_ok, plant_fault}

-- a plant's answer, by the first check that fails
module _ (s : List ℕ) where
  -- a bad header
  pub fault_1 : head_ok s ≡ false → plant_fault s ≡ 1
  unfolding plant_fault
  fault_1 h = rw h

  -- a good header and a bad label
  pub fault_2 : head_ok s ≡ true → labels_fine (plant_of s) ≡ false → plant_fault s ≡ 2
  unfolding plant_fault
  fault_2 h l = rw (h, l)

  -- good labels and a bad arrow
  pub fault_3 : head_ok s ≡ true → labels_fine (plant_of s) ≡ true → arrows_fine (plant_of s) ≡ false → plant_fault s ≡ 3
  unfolding plant_fault
  fault_3 h l a = rw (h, l, a)

  -- nothing bad
  pub no_plant_fault : head_ok s ≡ true → labels_fine (plant_of s) ≡ true
      → arrows_fine (plant_of s) ≡ true → plant_fault s ≡ 0
  unfolding plant_fault
  no_plant_fault h l a = rw (h, l, a)
