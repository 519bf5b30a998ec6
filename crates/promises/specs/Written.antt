-- Demand 2 of the bytes that a call wrote: the first of its book buffer, as many as the length that it returned.
use Rattle.std.specs.Prelude.{◌≡◌, List, ℕ, take}
use Rattle.std.specs.Int.Bits.{bit_or}
use Rattle.promises.specs.Answers.{Answer}
use Rattle.statements.specs.Plants.{plant_of}
use Rattle.statements.specs.Books.{book_mask, less_mask, masks_of, union_of}
use Rattle.statements.specs.Demands.{Allowed, KeptBefore, Right}
use Rattle.promises.specs.Says.{MakeSays, WithdrawSays, WithdrawListSays, ReturnSays, MakeIndexedSays}
use Rattle.promises.specs.Says.{WithdrawIndexedSays}

-- what an accepted call wrote is right, for the moves then in service and the states that it may not leave; the book
-- handed in may be one that nobody made
pub record Demand2Written : Type 0 where
  pub made : {s o o' : List ℕ} {mask : ℕ} {r : Answer} → MakeSays s mask o o' r → r.number ≡ 0 →
      Right (plant_of s) mask (Allowed (plant_of s)) (take r.length o')
  pub withdrawn : {s b o o' d d' : List ℕ} {gone : ℕ} {r : Answer} → WithdrawSays s b gone o o' d d' r →
      r.number ≡ 0 →
      Right (plant_of s) (less_mask (book_mask b) gone) (KeptBefore (plant_of s) b) (take r.length o')
  pub withdrawn_list_lem : {s b masks o o' d d' : List ℕ} {r : Answer} → WithdrawListSays s b masks o o' d d' r →
      r.number ≡ 0 →
      Right (plant_of s) (less_mask (book_mask b) (union_of (masks_of masks))) (KeptBefore (plant_of s) b)
      (take r.length o')
  pub returned : {s b o o' d d' : List ℕ} {back : ℕ} {r : Answer} → ReturnSays s b back o o' d d' r →
      r.number ≡ 0 → Right (plant_of s) (bit_or (book_mask b) back) (Allowed (plant_of s)) (take r.length o')
  -- by an index as without one
  pub made_by : {s index o o' : List ℕ} {mask : ℕ} {r : Answer} → MakeIndexedSays s index mask o o' r →
      r.number ≡ 0 → Right (plant_of s) mask (Allowed (plant_of s)) (take r.length o')
  pub withdrawn_by : {s index b o o' d d' : List ℕ} {gone : ℕ} {r : Answer} →
      WithdrawIndexedSays s index b gone o o' d d' r → r.number ≡ 0 →
      Right (plant_of s) (less_mask (book_mask b) gone) (KeptBefore (plant_of s) b) (take r.length o')
