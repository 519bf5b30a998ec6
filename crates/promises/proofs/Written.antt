-- What an accepted call wrote is the book of its definition, and so right as demand 2 says. Assumes nothing.
use mathlib.Core.Path.{◌≡◌}
use mathlib.Core.List.{List}
use Prim.Native.Nat.{ℕ}
use lib.ListN.{length, take}
use Rattle.statements.specs.Plants.{plant_of}
use Rattle.statements.specs.Books.{book_mask, less_mask}
use Rattle.statements.specs.Demands.{Allowed, KeptBefore, Right}
use Rattle.demands.proofs.Demand2.{demand_2}
use Rattle.demands.proofs.InTurn.{in_turn_lem}
use Rattle.demands.proofs.Returning.{returning}
use Rattle.promises.specs.Answers.{Answer}
use Rattle.promises.specs.Says.{MakeSays, WithdrawSays}
use Rattle.promises.specs.Written.{Demand2Written}
use Rattle.promises.proofs.Read.{no_fault, book_read}
use Rattle.promises.proofs.Indexed.{made_plain, withdrawn_plain}

-- that of a make and that of a withdrawal
made_right : {s o o' : List ℕ} {mask : ℕ} {r : Answer} → MakeSays s mask o o' r → r.number ≡ 0 →
    Right (plant_of s) mask (Allowed (plant_of s)) (take r.length o')
made_right {s} {o} {o'} {mask} says z =
    rw (← book_read says.writes z) at (demand_2.made s mask (length o) (no_fault says.writes z))

withdrawn_right : {s b o o' d d' : List ℕ} {gone : ℕ} {r : Answer} → WithdrawSays s b gone o o' d d' r →
    r.number ≡ 0 → Right (plant_of s) (less_mask (book_mask b) gone) (KeptBefore (plant_of s) b) (take r.length o')
withdrawn_right {s} {b} {o} {o'} {d} {d'} {gone} says z =
    rw (← book_read says.writes z)
    at (demand_2.withdrawn s b gone (length o) (length d) (no_fault says.writes z))

pub demand_2_written : Demand2Written
demand_2_written =
    record {
      made = made_right;
      withdrawn = withdrawn_right;
      withdrawn_list_lem = λ {s} {b} {masks} {o} {o'} {d} says z.
          rw (← book_read says.writes z)
          at (in_turn_lem.right s b masks (length o) (length d) (no_fault says.writes z));
      returned = λ {s} {b} {o} {o'} {d} {d'} {back} says z.
          rw (← book_read says.writes z)
          at (returning.right s b back (length o) (length d) (no_fault says.writes z));
      made_by = λ says z. made_right (made_plain says z) z;
      withdrawn_by = λ says z. withdrawn_right (withdrawn_plain says z) z;
    }
