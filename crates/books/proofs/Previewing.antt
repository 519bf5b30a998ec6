-- A withdrawal in the memory of a preview: what it answers, and K as it stands there. Assumes nothing.
use mathlib.Core.Path.{◌≡◌, sym, ap, ap₂, ◌∙◌}
use mathlib.Core.Bool.{Bool, true, false}
use mathlib.Core.List.{List}
use Prim.Native.Nat.{ℕ, ◌+◌, ◌*◌, ◌≤◌}
use native.Mathlib.Omega.{arith}
use lib.Dec.{eqb}
use lib.ListN.{length}
use Rattle.statements.specs.Sets.{pick, over}
use Rattle.statements.specs.Plants.{word, plant_of}
use Rattle.statements.specs.Books.{book_count, withdrawn_book}
use Rattle.sets.proofs.Over.{over_first}
use Rattle.decoding.proofs.Faults.{preview_as_longest}
use Rattle.std.specs.Prelude.{Result, Err}
use borrow.Author.Tests.{ne_eqb}
use Rattle.refusal.specs.declared.Refusal.{Refusal}
use Rattle.refusal.specs.Numbers.{number_of}
use Rattle.refusal.proofs.Refused.{some_refusal}
use Rattle.promises.specs.declared.Preview.{Preview}
use Rattle.promises.specs.Answers.{Answer, answer_of, cost_of}
use Rattle.promises.specs.Says.{WithdrawSays, PreviewSays}
use Rattle.books.proofs.Made.{withdrawn_long}

-- K of a book written over the first of a buffer
count_over : (b o : List ℕ) → 16 ≤ length b → book_count (over b o) ≡ book_count b
unfolding book_count word
count_over b o h =
    ap₂ (λ (x y : ℕ). x + 256 * y) (over_first b o 6 (omega arith)) (over_first b o 7 (omega arith))

-- K as it stands in a buffer of zeros, written over or not
kept_is : (t : Bool) (b o o' : List ℕ) → 16 ≤ length b → book_count o ≡ 0 → o' ≡ pick t (over b o) o
    → book_count o' ≡ pick t (book_count b) 0
kept_is true b o o' h z e = ap book_count e ∙ count_over b o h
kept_is false b o o' h z e = ap book_count e ∙ z

-- a withdrawal into a book buffer of zeros that is long enough for every book: what it answers, and K as it stands in
-- the buffer afterwards
pub preview_done : {s b : List ℕ} {gone : ℕ} {o o' d d' : List ℕ} {r : Answer} (kept : ℕ)
    → WithdrawSays s b gone o o' d d' r → length o ≡ 34832 → book_count o ≡ 0 → kept ≡ book_count o'
    → PreviewSays s b gone d d' (record { number = r.number; drops = r.drops; kept = kept })
preview_done {s} {b} {gone} {o} {o'} {d} {d'} {r} kept says long zeros e =
    let new = withdrawn_book (plant_of s) b gone in
    record {
      number = says.writes.number ∙ sym (preview_as_longest s b gone (length o) (length d) long);
      drops = says.writes.drops;
      kept = e ∙ kept_is (eqb r.number 0) new o o' (withdrawn_long (plant_of s) b gone) zeros says.writes.book;
      list = says.writes.list;
    }

-- refused: the number, and 0 in the other fields
pub preview_refused : {s b : List ℕ} {gone : ℕ} {o o' d d' : List ℕ} (r : Result Preview Refusal) (why : Refusal)
    → r ≡ Err why → WithdrawSays s b gone o o' d d' (answer_of (Err why)) → length o ≡ 34832
    → PreviewSays s b gone d d' (cost_of r)
preview_refused {s} {b} {gone} {o} {o'} {d} {d'} r why e says long =
    let none = ne_eqb (number_of why) 0 (some_refusal why) in
    rw e
    (record {
      number = says.writes.number ∙ sym (preview_as_longest s b gone (length o) (length d) long);
      drops = says.writes.drops;
      kept = rw none;
      list = says.writes.list;
    })
