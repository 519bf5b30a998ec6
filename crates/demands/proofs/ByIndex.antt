-- The ways by an index: its check comes straight after the plant's, and past it they are the plain calls. Assumes
-- nothing.
use mathlib.Core.Path.{◌≡◌}
use mathlib.Core.List.{List, []}
use Prim.Native.Nat.{ℕ}
use Rattle.statements.specs.Plants.{plant_of}
use Rattle.statements.specs.Books.{made_book, withdrawn_book, dropped_states}
use Rattle.statements.specs.Index.{index_bytes}
use Rattle.statements.specs.Calls.{make_fault, withdraw_fault, makes, withdraws, makes_by, withdraws_by, effect_of}
use Rattle.statements.specs.ByIndex.{ByIndex}
use Rattle.decoding.proofs.Order.{plant_ordered}
use Rattle.decoding.proofs.Indexed.{index_exact, index_otherwise, index_size, by_parts, by_refused, by_other, make_own}
use Rattle.decoding.proofs.Indexed.{withdraw_own}

-- by the plant's index a call has the effect of the plain one
made_same : (s b : List ℕ) (mask : ℕ) →
    effect_of s b (makes_by (index_bytes (plant_of s)) mask) ≡ effect_of s b (makes mask)
made_same s b mask = λ k.
    record { number = λ room drops. make_own s mask room k; book = made_book (plant_of s) mask; list = [] }

withdrawn_same : (s b : List ℕ) (gone : ℕ) →
    effect_of s b (withdraws_by (index_bytes (plant_of s)) gone) ≡ effect_of s b (withdraws gone)
withdrawn_same s b gone = λ k.
    let after = withdrawn_book (plant_of s) b gone in
    record {
      number = λ room drops. withdraw_own s b gone room drops k;
      book = after;
      list = dropped_states b after;
    }

-- request (viii)
pub by_index_lem : ByIndex
by_index_lem =
    record {
      order = plant_ordered;
      size = index_size;
      exact = index_exact;
      otherwise = index_otherwise;
      made = made_same;
      withdrawn = withdrawn_same;
      made_otherwise = λ s b index mask room drops. by_other s index (make_fault s mask room);
      withdrawn_otherwise = λ s b index gone room drops. by_other s index (withdraw_fault s b gone room drops);
      made_refused = λ s b index mask room drops. by_refused s index (make_fault s mask room);
      withdrawn_refused = λ s b index gone room drops. by_refused s index (withdraw_fault s b gone room drops);
      begins = λ s index mask room h. (by_parts s index (make_fault s mask room) h).2;
    }
