-- Making and withdrawing: the book within a list of states is written where the plant is accepted, and nowhere else.
-- Assumes nothing.
use mathlib.Core.Path.{◌≡◌, refl, sym, ap, ◌∙◌}
use mathlib.Core.Bool.{Bool, true, false, ◌&&◌, not, and_comm}
use mathlib.Core.List.{List}
use Prim.Native.Nat.{ℕ, ◌-◌, ◌≤◌}
use native.Mathlib.Omega.{arith}
use lib.ListN.{length, take}
use lib.Seq.{length-take-le}
use lib.Bits.{bit_and}
use Rattle.std.specs.Prelude.{Option, Some, None}
use Rattle.statements.specs.Sets.{pick, numbers, filter, over}
use Rattle.statements.specs.Plants.{Plant, plant_of, head_ok, allowed}
use Rattle.statements.specs.Books.{book_bytes, book_fault, book_long, book_states, book_mask, is_lost, book_kept, less_mask}
use Rattle.statements.specs.Books.{book_within, made_book, kept_before, withdrawn_book}
use Rattle.statements.specs.Calls.{book_room}
use Rattle.sets.proofs.Members.{filter_same, filter_filter, filter_length, length_numbers}
use Rattle.sets.proofs.Over.{over_back}
use Rattle.decoding.proofs.Header.{within_length, withdrawn_length}
use Rattle.decoding.proofs.Sizes.{book_fits, kept_few}
use Rattle.arrays.specs.Lists.{among}
use Rattle.arrays.proofs.Ordered.{filter_rising}
use Rattle.graph.specs.Packed.{accepts}
use Rattle.refusals.specs.Ahead.{withdraw_ahead}
use Rattle.refusals.proofs.Ahead.{make_parts, plant_few, withdraw_passes, passes_states}
use Rattle.writing.specs.Written.{writable, written_long, written_book}
use Rattle.writing.proofs.Solved.{some_other, some_same, can_write, written, not_written}
use Rattle.books.proofs.Started.{kept_same}

-- a list of the states at which a test holds gives the book of that test
within_same : (p : Plant) (mask : ℕ) (test : ℕ → Bool) (start : List ℕ)
    → start ≡ filter test (numbers p.states 0) → book_within p mask (among start) ≡ book_within p mask test
unfolding book_within
within_same p mask test start e = ap (book_bytes p mask) (kept_same p mask test start e)

-- a book from a list of the states at which a test holds, with room for it, is written where what is lent is good, and
-- nowhere else
within_written : (good : Bool) (s : List ℕ) (mask : ℕ) (test : ℕ → Bool) (start o : List ℕ)
    → start ≡ filter test (numbers (plant_of s).states 0) → book_room (plant_of s) (length o) ≡ true
    → let p = plant_of s in
    (written_long good s start o ≡ pick good (Some (book_long p.settles p.states p.goals)) None)
    × (written_book good s mask start o ≡ pick good (over (book_within p mask test) o) o)
unfolding writable
within_written true s mask test start o e room =
    let p = plant_of s in
    let w = written true s mask start o
    (can_write true s start o refl (rw e (filter_rising test p.states)) (book_fits p (length o) room)) in
    (w.0, w.1 ∙ ap (λ (b : List ℕ). over b o) (within_same p mask test start e))
within_written false s mask test start o e room =
    let w = not_written false s mask start o refl in
    (sym w.0, sym w.1)

-- striking out the states that are not allowed leaves the others at the front of the list
pub struck : (p : Plant) (list new xs old : List ℕ) {count kept : ℕ} → list ≡ over xs old → count ≡ length xs
    → count ≤ length list → length new ≡ length list → kept ≡ length (filter (allowed p) (take count list))
    → take kept new ≡ filter (allowed p) (take count list)
    → (kept ≤ length new) × (take kept new ≡ filter (allowed p) xs)
struck p list new xs old {count} began exact room size number e =
    let front : take count list ≡ xs = ap (take count) began ∙ over_back xs old count exact in
    let few = filter_length (allowed p) (take count list) in
    (omega (arith, length-take-le count list room), e ∙ ap (filter (allowed p)) front)

-- the allowed ones of the states that a book keeps
kept_before_lem : (p : Plant) (b : List ℕ) → book_states b ≡ p.states
    → filter (allowed p) (book_kept b) ≡ filter (kept_before p b) (numbers p.states 0)
unfolding book_kept kept_before
kept_before_lem p b e =
    rw e
    (filter_filter (allowed p) (λ x. not (is_lost b x)) (numbers p.states 0)
    ∙ filter_same (λ x. not (is_lost b x) && allowed p x) (λ x. allowed p x && not (is_lost b x)) (numbers p.states 0)
    (λ x m. and_comm (not (is_lost b x)) (allowed p x)))

-- what a withdrawal that passes the checks ahead of loading is lent
pub record Ready (s b : List ℕ) (out : ℕ) : Type 0 where
  pub head : head_ok s ≡ true
  pub room : book_room (plant_of s) out ≡ true
  pub accepted : book_fault b ≡ 0
  pub states : book_states b ≡ (plant_of s).states
  pub few : book_states b ≤ 1024

pub ready : (s b : List ℕ) (gone out drops : ℕ) → withdraw_ahead s b gone out drops ≡ true → Ready s b out
ready s b gone out drops h =
    let ok = withdraw_passes s b gone out drops h in
    let parts = make_parts s gone out ok.make in
    let same = passes_states s b gone out drops ok in
    record {
      head = parts.0;
      room = parts.2;
      accepted = ok.book;
      states = same;
      few = omega (arith, plant_few s parts.0, same);
    }

-- the book of a making is the one within the allowed states
pub made_written : (indexed : Bool) (index s : List ℕ) (mask : ℕ) (start o : List ℕ) {long : Option ℕ} {o' : List ℕ}
    → book_room (plant_of s) (length o) ≡ true
    → start ≡ filter (allowed (plant_of s)) (numbers (plant_of s).states 0)
    → let good = accepts indexed index s in
    let p = plant_of s in
    long ≡ written_long good s start o → o' ≡ written_book good s mask start o
    → (long ≡ pick good (Some (length (made_book p mask))) None) × (o' ≡ pick good (over (made_book p mask) o) o)
unfolding made_book
made_written indexed index s mask start o room h el eo =
    let p = plant_of s in
    let good = accepts indexed index s in
    let w = within_written good s mask (allowed p) start o h room in
    (el ∙ w.0 ∙ ap (λ (n : ℕ). pick good (Some n) None) (sym (within_length p mask (allowed p))), eo ∙ w.1)

-- and that of a withdrawal the one within the allowed states that the old book keeps, for the old mask less the moves
-- withdrawn
pub withdrawn_written : (indexed : Bool) (index s b : List ℕ) (gone drops : ℕ) (o start : List ℕ) {mask : ℕ}
    {long : Option ℕ} {o' : List ℕ}
    → withdraw_ahead s b gone (length o) drops ≡ true
    → start ≡ filter (allowed (plant_of s)) (book_kept b)
    → mask ≡ book_mask b
    → let good = accepts indexed index s in
    let book = withdrawn_book (plant_of s) b gone in
    long ≡ written_long good s start o → o' ≡ written_book good s (mask - bit_and mask gone) start o
    → (long ≡ pick good (Some (length book)) None) × (o' ≡ pick good (over book o) o)
unfolding withdrawn_book less_mask
withdrawn_written indexed index s b gone drops o start {mask} h es em el eo =
    let p = plant_of s in
    let good = accepts indexed index s in
    let lent = ready s b gone (length o) drops h in
    let w = within_written good s (mask - bit_and mask gone) (kept_before p b) start o
    (es ∙ kept_before_lem p b lent.states) lent.room in (
      el ∙ w.0 ∙ ap (λ (n : ℕ). pick good (Some n) None) (sym (withdrawn_length p b gone)),
      eo ∙ w.1 ∙ ap (λ (m : ℕ). pick good (over (book_within p (less_mask m gone) (kept_before p b)) o) o) em,
    )

-- the states listed that are not allowed are struck out of the list: of all states, the book of a making is within what is
-- left
pub made_struck : (indexed : Bool) (index s : List ℕ) (mask : ℕ) (o new old : List ℕ) {list o' : List ℕ} {all kept : ℕ}
    {long : Option ℕ}
    → head_ok s ≡ true → book_room (plant_of s) (length o) ≡ true
    → all ≡ (plant_of s).states → list ≡ over (numbers (plant_of s).states 0) old → 1024 ≤ length list
    → length new ≡ length list → kept ≡ length (filter (allowed (plant_of s)) (take all list))
    → take kept new ≡ filter (allowed (plant_of s)) (take all list)
    → let good = accepts indexed index s in
    let p = plant_of s in
    long ≡ written_long good s (take kept new) o → o' ≡ written_book good s mask (take kept new) o
    → (long ≡ pick good (Some (length (made_book p mask))) None) × (o' ≡ pick good (over (made_book p mask) o) o)
made_struck indexed index s mask o new old {list} head room number began size same count still el eo =
    let p = plant_of s in
    let left = struck p list new _ old began (number ∙ sym (length_numbers p.states 0))
    (omega (arith, plant_few s head)) same count still in
    made_written indexed index s mask (take _ new) o room left.1 el eo

-- and of those that the old book keeps, the book of a withdrawal
pub withdrawn_struck : (indexed : Bool) (index s b : List ℕ) (gone drops : ℕ) (o new old : List ℕ)
    {list o' : List ℕ} {before kept mask : ℕ} {long : Option ℕ} → withdraw_ahead s b gone (length o) drops ≡ true
    → before ≡ length (book_kept b) → list ≡ over (book_kept b) old → 1024 ≤ length list
    → length new ≡ length list → kept ≡ length (filter (allowed (plant_of s)) (take before list))
    → take kept new ≡ filter (allowed (plant_of s)) (take before list)
    → mask ≡ book_mask b
    → let good = accepts indexed index s in
    let book = withdrawn_book (plant_of s) b gone in
    long ≡ written_long good s (take kept new) o
    → o' ≡ written_book good s (mask - bit_and mask gone) (take kept new) o
    → (long ≡ pick good (Some (length book)) None) × (o' ≡ pick good (over book o) o)
withdrawn_struck indexed index s b gone drops o new old {list} h number began size same count still em el eo =
    let lent = ready s b gone (length o) drops h in
    let left = struck (plant_of s) list new _ old began number (omega (arith, kept_few b, lent.few)) same count still in
    withdrawn_written indexed index s b gone drops o (take _ new) h left.1 em el eo

-- every book has its header
long_least : (t : Bool) (s n : ℕ) → 16 ≤ book_long t s n
unfolding book_long
long_least true s n = omega arith
long_least false s n = omega arith

pub withdrawn_long : (p : Plant) (b : List ℕ) (gone : ℕ) → 16 ≤ length (withdrawn_book p b gone)
withdrawn_long p b gone = omega (arith, withdrawn_length p b gone, long_least p.settles p.states p.goals)

-- what is written is no longer than a buffer with room for it
pub made_fits : (p : Plant) (mask : ℕ) (fine : Bool) {long : ℕ} (room : ℕ) → book_room p room ≡ true
    → Some long ≡ pick fine (Some (length (made_book p mask))) None → long ≤ room
unfolding made_book
made_fits p mask true room h e =
    omega (arith, some_same e, within_length p mask (allowed p), book_fits p room h)
made_fits p mask false room h e = absurd (some_other (sym e))
