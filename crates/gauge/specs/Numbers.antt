-- Numbers of millimetres, as fractions, and the one that a finite float stands for. Assumes nothing.
use Rattle.std.specs.Prelude.{ℕ, ◌+◌, ◌-◌, ◌*◌, ◌<◌, ◌≤◌, Bool, true, false, Float}
use Rattle.std.proofs.Common.{mul-pos, arith}
use Rattle.std.specs.Float.{nan, inf, fin}
use Rattle.std.specs.Float.Ieee.{up, down}
use Rattle.std.specs.Float.Ieee.Fits.{down_pos}

-- (plus - minus) / over
pub record Number : Type 0 where
  pub plus : ℕ
  pub minus : ℕ
  pub over : ℕ
  pub some : 0 < over

-- p < q and p ≤ q, multiplied out
abbrev pub Below : Number → Number → Type 0
Below p q = p.plus * q.over + q.minus * p.over < q.plus * p.over + p.minus * q.over

abbrev pub AtMost : Number → Number → Type 0
AtMost p q = p.plus * q.over + q.minus * p.over ≤ q.plus * p.over + p.minus * q.over

-- p - q
unfoldable pub less : Number → Number → Number
less p q =
    record {
      plus = p.plus * q.over + q.minus * p.over;
      minus = q.plus * p.over + p.minus * q.over;
      over = p.over * q.over;
      some = mul-pos p.some q.some;
    }

-- |p - q|
unfoldable pub apart : Number → Number → Number
unfolding less
apart p q =
    let d = less p q in
    record { plus = (d.plus - d.minus) + (d.minus - d.plus); minus = 0; over = d.over; some = d.some }

-- neither undefined nor infinite
abbrev pub is_finite : Float → Bool
is_finite nan = false
is_finite (inf s) = false
is_finite (fin s m e) = true

-- the number that a finite float stands for, exactly: m * 2 ^ e, negative where its sign says so; 0 for the others
abbrev pub value_of : Float → Number
value_of nan = record { plus = 0; minus = 0; over = 1; some = omega arith }
value_of (inf s) = record { plus = 0; minus = 0; over = 1; some = omega arith }
value_of (fin false m e) = record { plus = m * up e; minus = 0; over = down e; some = down_pos e }
value_of (fin true m e) = record { plus = 0; minus = m * up e; over = down e; some = down_pos e }
