-- What the calls by an index have to do with the plain ones and with the call that builds it: the contracts against
-- each other.
use Rattle.std.specs.Prelude.{◌≡◌, ◌↔◌, List, ℕ, length, take}
use Rattle.promises.specs.Answers.{Answer}
use Rattle.statements.specs.Plants.{plant_of, plant_fault}
use Rattle.statements.specs.Index.{index_long, index_bytes}
use Rattle.promises.specs.Says.{MakeSays, WithdrawSays, IndexSays, MakeIndexedSays, WithdrawIndexedSays}

pub record Indexed : Type 0 where
  -- by the plant's index, refused or accepted, a make answers and leaves in its buffer what the plain one does, byte
  -- for byte
  pub made : {s o o' o'' : List ℕ} {mask : ℕ} {r r' : Answer} →
      MakeIndexedSays s (index_bytes (plant_of s)) mask o o' r → MakeSays s mask o o'' r' → (r ≡ r') × (o' ≡ o'')
  -- and so does a withdrawal, from any book
  pub withdrawn : {s b o o' o'' d d' d'' : List ℕ} {gone : ℕ} {r r' : Answer} →
      WithdrawIndexedSays s (index_bytes (plant_of s)) b gone o o' d d' r → WithdrawSays s b gone o o'' d d'' r' →
      (r ≡ r') × (o' ≡ o'') × (d' ≡ d'')
  -- the number is 10 exactly where the plant is accepted and the bytes lent are not its index
  pub made_ten : {s index o o' : List ℕ} {mask : ℕ} {r : Answer} → MakeIndexedSays s index mask o o' r →
      (r.number ≡ 10) ↔ ((plant_fault s ≡ 0) × (index ≡ index_bytes (plant_of s) → ⊥))
  pub withdrawn_ten : {s index b o o' d d' : List ℕ} {gone : ℕ} {r : Answer} →
      WithdrawIndexedSays s index b gone o o' d d' r →
      (r.number ≡ 10) ↔ ((plant_fault s ≡ 0) × (index ≡ index_bytes (plant_of s) → ⊥))
  -- the index is what the call that builds it wrote, 8 + 2E bytes
  pub built : (s : List ℕ) {o o' : List ℕ} {r : Answer} → IndexSays s o o' r → r.number ≡ 0 →
      (take r.length o' ≡ index_bytes (plant_of s)) × (r.length ≡ index_long (length (plant_of s).arrows))
