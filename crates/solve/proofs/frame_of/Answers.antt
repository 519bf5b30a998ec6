-- The figures are the plant's numbers.
use Rattle.std.proofs.Common.{◌≡◌, Bool, true, false, ℕ, ◌+◌, ◌*◌, refl, ◌∙◌}
use Rattle.statements.specs.Plants.{Plant, plant_of}
use Rattle.solve.specs.Rows.{row_size}
use Rattle.solve.proofs.frame_of.Goals as goal
use Rattle.solve.proofs.frame_of.Goals.{then-stages, else-stages}

-- the numbers of a row, where the plant settles and where it does not
sized_staged : (p : Plant) {t : Bool} {n size : ℕ} → t ≡ p.settles → n ≡ p.goals → t ≡ true → size ≡ 2 * n + 1
    → size ≡ row_size p
unfolding row_size
sized_staged p e en taken is = is ∙ rw (← e, taken, en) refl

sized_plain : (p : Plant) {t : Bool} {n size : ℕ} → t ≡ p.settles → n ≡ p.goals → t ≡ false → size ≡ 2 * n
    → size ≡ row_size p
unfolding row_size
sized_plain p e en left is = is ∙ rw (← e, left, en) refl

pub returns : goal.returns
unfolding plant_of
returns c =
    let p = plant_of c.args.plant.now in
    let n = c.number.ensures in
    let x = c.number-2.ensures in
    let g = c.number-goals.ensures in
    let z = c.settles-stages.ensures in
    let size : c.if-stages.size ≡ row_size p =
    elim c.if-stages.branch [
      | then-stages w ↦ sized_staged p z g w.if-stages.true w.size-is
      | else-stages w ↦ sized_plain p z g w.if-stages.false w.size-is
    ] in
    rw (n, x, g, size, z, c.is_some.ensures) refl
