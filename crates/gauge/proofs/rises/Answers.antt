-- A number that is not the lowest and below one that is not the highest is finite, and so is the other. By cases on x
-- and y.
use Rattle.std.proofs.Common.{◌≡◌, Bool, true, false, ◌&&◌, refl, sym, ◌∙◌}
use mathlib.Core.Bool.{true≢false}
use lib.Ieee.{Float, nan, inf, fin, lt, of_bits}
use Rattle.gauge.specs.Numbers.{is_finite}
use Rattle.gauge.proofs.rises.Goals as goal
use Rattle.gauge.proofs.rises.Goals.{then-x-y, else-x-y}

-- x is below y and not the lowest
between : (x y : Float) → lt x y ≡ true → lt (inf true) x ≡ true →
    lt y (inf false) ≡ (is_finite x && (is_finite y && lt x y))
unfolding lt
between nan y h k = absurd (true≢false (sym h))
between (inf true) y h k = absurd (true≢false (sym k))
between (inf false) nan h k = refl
between (inf false) (inf s) h k = absurd (true≢false (sym h))
between (inf false) (fin s m e) h k = absurd (true≢false (sym h))
between (fin s m e) nan h k = refl
between (fin s m e) (inf true) h k = absurd (true≢false (sym h))
between (fin s m e) (inf false) h k = refl
between (fin s m e) (fin t n d) h k = sym h

-- x is the lowest, or undefined
lowest : (x y : Float) → lt (inf true) x ≡ false → false ≡ (is_finite x && (is_finite y && lt x y))
unfolding lt
lowest nan y k = refl
lowest (inf s) y k = refl
lowest (fin s m e) y k = absurd (true≢false k)

-- x is not below y
not_below : (x y : Float) → lt x y ≡ false → false ≡ (is_finite x && (is_finite y && lt x y))
not_below x y h = rw h (go (is_finite x) (is_finite y))
  where
    go : (a b : Bool) → false ≡ (a && (b && false))
    go true true = refl
    go true false = refl
    go false b = refl

pub returns-then-x : goal.returns-then-x
unfolding of_bits
returns-then-x c =
    elim c.if-x-y.branch [
      | then-x-y w ↦ between c.args.x c.args.y w.if-x-y.true (sym w.value-is ∙ c.if-x.true)
      | else-x-y w ↦ absurd (true≢false (sym c.if-x.true ∙ w.value-is ∙ w.if-x-y.false))
    ]

pub returns-else-x : goal.returns-else-x
unfolding of_bits
returns-else-x c =
    elim c.if-x-y.branch [
      | then-x-y w ↦ c.if-x.false ∙ lowest c.args.x c.args.y (sym w.value-is ∙ c.if-x.false)
      | else-x-y w ↦ c.if-x.false ∙ not_below c.args.x c.args.y w.if-x-y.false
    ]
