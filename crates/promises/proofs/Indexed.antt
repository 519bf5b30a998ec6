-- The calls by an index, against the plain ones: by the plant's index both have one effect, and no other bytes are
-- accepted. Assumes nothing.
use mathlib.Core.Path.{◌≡◌, sym, subst, ◌∙◌}
use mathlib.Core.Logic.{◌↔◌}
use mathlib.Core.List.{List, []}
use Prim.Native.Nat.{ℕ, ◌≤◌}
use lib.ListN.{length}
use borrow.Author.Tests.{eq-eqb}
use Rattle.statements.specs.Plants.{plant_of, plant_fault}
use Rattle.statements.specs.Index.{index_bytes}
use Rattle.statements.specs.Calls.{by_index, indexing_fault, Ask, Effect, effect_of}
use Rattle.decoding.proofs.Faults.{first_iff}
use Rattle.decoding.proofs.Indexed.{index_size, make_low, withdraw_low, by_parts, by_ten}
use Rattle.demands.proofs.ByIndex.{by_index_lem}
use Rattle.promises.specs.Answers.{Answer}
use Rattle.promises.specs.Says.{Writes, Says, MakeSays, WithdrawSays, MakeIndexedSays, WithdrawIndexedSays}
use Rattle.promises.specs.Indexed.{Indexed}
use Rattle.promises.proofs.Read.{no_fault, book_read}
use Rattle.promises.proofs.Determined.{determined}

-- asks with the same effect are said the same
said_as : {s b o o' d d' : List ℕ} {ask other : Ask} {r : Answer} → effect_of s b ask ≡ effect_of s b other
    → Says s b ask o o' d d' r → Says s b other o o' d d' r
said_as {o = o} {o' = o'} {d = d} {d' = d'} {r = r} same says =
    record {
      writes =
          subst (λ (does : Effect). Writes (does.number (length o) (length d)) does.book does.list o o' d d' r)
          same says.writes;
    }

-- by the plant's index
pub made_own : {s o o' : List ℕ} {mask : ℕ} {r : Answer} → MakeIndexedSays s (index_bytes (plant_of s)) mask o o' r
    → MakeSays s mask o o' r
made_own {s} {mask = mask} says = said_as (by_index_lem.made s [] mask) says

withdrawn_own : {s b o o' d d' : List ℕ} {gone : ℕ} {r : Answer}
    → WithdrawIndexedSays s (index_bytes (plant_of s)) b gone o o' d d' r → WithdrawSays s b gone o o' d d' r
withdrawn_own {s} {b} {gone = gone} says = said_as (by_index_lem.withdrawn s b gone) says

-- an accepted call was lent that
pub made_plain : {s index o o' : List ℕ} {mask : ℕ} {r : Answer} → MakeIndexedSays s index mask o o' r
    → r.number ≡ 0 → MakeSays s mask o o' r
made_plain {s} {index} {o} {o'} {mask} {r} says z =
    let own = (by_parts s index _ (no_fault says.writes z)).1 in
    made_own (subst (λ (i : List ℕ). MakeIndexedSays s i mask o o' r) own says)

pub withdrawn_plain : {s index b o o' d d' : List ℕ} {gone : ℕ} {r : Answer}
    → WithdrawIndexedSays s index b gone o o' d d' r → r.number ≡ 0 → WithdrawSays s b gone o o' d d' r
withdrawn_plain {s} {index} {b} {o} {o'} {d} {d'} {gone} {r} says z =
    let own = (by_parts s index _ (no_fault says.writes z)).1 in
    withdrawn_own (subst (λ (i : List ℕ). WithdrawIndexedSays s i b gone o o' d d' r) own says)

-- a call's number is 10 exactly where the plant is accepted and the bytes lent are not its index
said_ten : (s index : List ℕ) {n plain : ℕ} → n ≡ by_index s index plain → plain ≤ 7
    → (n ≡ 10) ↔ ((plant_fault s ≡ 0) × (index ≡ index_bytes (plant_of s) → ⊥))
said_ten s index {n} {plain} e low =
    let ten = by_ten s index plain low in
    (λ h. ten.0 (sym e ∙ h), λ h. e ∙ ten.1 h)

pub indexed : Indexed
unfolding indexing_fault
indexed =
    record {
      made = λ says plain. let same = determined.writes (made_own says) plain in (same.0, same.1);
      withdrawn = λ says plain. determined.writes (withdrawn_own says) plain;
      made_ten = λ {s} {index} {o} {o'} {mask} says.
          said_ten s index says.writes.number (make_low s mask (length o));
      withdrawn_ten = λ {s} {index} {b} {o} {o'} {d} {d'} {gone} says.
          said_ten s index says.writes.number (withdraw_low s b gone (length o) (length d));
      built = λ s {o} {o'} {r} says z.
          let fine = ((first_iff (plant_fault s) _).0 (no_fault says z)).0 in
          (book_read says z, rw (eq-eqb r.number 0 z) at says.length_is ∙ index_size s fine);
    }
