-- The two tests against the infinities, by cases on x.
use Rattle.std.proofs.Common.{◌≡◌, true, false, refl, sym}
use mathlib.Core.Bool.{true≢false}
use lib.Ieee.{Float, nan, inf, fin, lt, of_bits}
use Rattle.gauge.specs.Numbers.{is_finite}
use Rattle.gauge.proofs.finite.Goals as goal

under : (x : Float) → lt (inf true) x ≡ true → lt x (inf false) ≡ is_finite x
unfolding lt
under nan h = refl
under (inf true) h = sym h
under (inf false) h = refl
under (fin s m e) h = refl

not_over : (x : Float) → lt (inf true) x ≡ false → lt (inf true) x ≡ is_finite x
unfolding lt
not_over nan h = refl
not_over (inf true) h = refl
not_over (inf false) h = absurd (true≢false h)
not_over (fin s m e) h = refl

pub returns-then-x : goal.returns-then-x
unfolding of_bits
returns-then-x c = under c.args.x c.if-x.true

pub returns-else-x : goal.returns-else-x
unfolding of_bits
returns-else-x c = not_over c.args.x c.if-x.false
