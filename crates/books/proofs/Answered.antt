-- What the calls that write a book answer. A call passes when its checks ahead of loading do; then the book written
-- tells whether the plant is accepted. Assumes nothing.
use mathlib.Core.Path.{◌≡◌, refl, sym, ap, ◌∙◌}
use mathlib.Core.Logic.{inl, inr}
use mathlib.Core.Bool.{Bool, true, false, ◌&&◌}
use mathlib.Core.List.{List, []}
use Prim.Native.Nat.{ℕ, ◌+◌, ◌*◌, ◌≤◌}
use native.Mathlib.Omega.{arith}
use lib.Dec.{eqb, leb}
use lib.ListN.{length, take}
use lib.Bits.{bit_or}
use borrow.Author.Tests.{eqb-true, eq-eqb, ne_eqb}
use Rattle.std.specs.Prelude.{Some, None}
use Rattle.statements.specs.Sets.{pick, over}
use Rattle.statements.specs.Plants.{word, plant_of, plant_fault}
use Rattle.statements.specs.Books.{bytes_of, book_states, book_mask, made_book, withdrawn_book, returned_book, gained_states}
use Rattle.statements.specs.Books.{masks_of, union_of}
use Rattle.statements.specs.Index.{index_long, index_bytes}
use Rattle.statements.specs.Calls.{make_fault, withdraw_fault, withdraw_list_fault, return_fault, indexing_fault}
use Rattle.sets.proofs.Tests.{decided, not_both, same_number, and_left}
use Rattle.sets.proofs.Over.{over_back}
use Rattle.decoding.proofs.Sizes.{drops_fit}
use Rattle.decoding.proofs.Order.{arrows_length}
use Rattle.decoding.proofs.Indexed.{index_size}
use Rattle.demands.proofs.Returning.{gained_dropped, returning}
use Rattle.refusals.specs.Ahead.{make_ahead, withdraw_ahead, list_ahead}
use Rattle.refusals.proofs.Ahead.{make_left, make_exactly, withdraw_passes, passes_states}
use Rattle.refusals.proofs.Ahead.{withdraw_left, withdraw_exactly, list_left, list_exactly}
use Rattle.refusals.proofs.Refusals.{indexing_exactly}
use Rattle.graph.specs.Packed.{accepts}
use Rattle.writing.specs.Written.{dropped_count, written_drops}
use Rattle.writing.proofs.Solved.{some_other, some_same}
use Rattle.writing.proofs.Drops.{room_listed}
use Rattle.promises.specs.Answers.{Answer}
use Rattle.promises.specs.Says.{Listed, Writes, Says, WithdrawSays, WithdrawListSays, ReturnSays, IndexSays}
use Rattle.promises.proofs.Demands.{of_withdraw}
use Rattle.promises.proofs.InTurn.{as_list}
use Rattle.books.specs.Ways.{number_by, make_ask, withdraw_ask}
use Rattle.books.proofs.Ways.{plain_passed, by_exactly, make_says, withdraw_says}

-- what a call that writes a book and lists states answers when it is refused
pub writes_refused : (n number : ℕ) (after listed o d : List ℕ) {r : Answer}
    → r ≡ record { number = n; length = 0; drops = 0 } → n ≡ number → (n ≡ 0 → ⊥)
    → Writes number after listed o o d d r
writes_refused n number after listed o d e en h =
    let no = ne_eqb n 0 h in
    rw e
    (record {
      number = en;
      length_is = rw no;
      drops = rw no;
      book = rw no;
      list = rw no;
    })

-- what one answers that has written a book, or has not, by a test that tells whether it is accepted
module _ (number : ℕ) (good : Bool) (new listed o d : List ℕ) {o' : List ℕ} (exact : good ≡ eqb number 0)
    (wrote : o' ≡ pick good (over new o) o) where
  -- without a book it is refused
  pub writes_none : (n : ℕ) {r : Answer} → None ≡ pick good (Some (length new)) None
      → r ≡ record { number = n; length = 0; drops = 0 } → n ≡ number → Writes number new listed o o' d d r
  writes_none n {r} none e en =
      elim (decided good) [
        | inl t ↦ absurd (some_other (rw t at none))
        | inr f ↦
            rw (rw f at wrote)
            (writes_refused n number new listed o d e en (λ z. not_both (exact ∙ eq-eqb _ _ (sym en ∙ z)) f))
      ]

  -- with one: it is written, and the list by what is read back of it
  pub writes_0 : {long count : ℕ} {d' : List ℕ} → Some long ≡ pick good (Some (length new)) None
      → (number ≡ 0 → take long o' ≡ new → (count ≡ length listed) × (d' ≡ over (bytes_of listed) d))
      → Writes number new listed o o' d d' (record { number = 0; length = long; drops = count })
  writes_0 {long} size lists =
      elim (decided good) [
        | inl t ↦
            let zero = eqb-true _ _ (sym exact ∙ t) in
            let is : long ≡ length new = some_same (rw t at size) in
            let book = rw t at wrote in
            let list = lists zero (ap (take long) book ∙ over_back new o long is) in
            record { number = sym zero; length_is = is; drops = list.0; book = book; list = list.1 }
        | inr f ↦ absurd (some_other (sym (rw f at size)))
      ]

-- what a make answers, by an index or without one
module _ (indexed : Bool) (index s : List ℕ) (mask : ℕ) (o : List ℕ) where
  -- when it does not pass
  pub make_refused : (n : ℕ) {r : Answer} → r ≡ record { number = n; length = 0; drops = 0 }
      → n ≡ number_by indexed index s (make_fault s mask (length o)) → make_ahead s mask (length o) ≡ false
      → Says s [] (make_ask indexed index mask) o o [] [] r
  make_refused n e en f =
      make_says indexed index s mask
      (writes_refused n _ _ _ o [] e en
      (λ z. not_both ((make_exactly s mask (length o)).0 (plain_passed indexed index s _ (sym en ∙ z))).0 f))

  -- and when it does
  module _ {o' : List ℕ} (h : make_ahead s mask (length o) ≡ true)
      (wrote : o' ≡ pick (accepts indexed index s) (over (made_book (plant_of s) mask) o) o) where
    made_exact : accepts indexed index s ≡ eqb (number_by indexed index s (make_fault s mask (length o))) 0
    made_exact = by_exactly indexed index s _ (make_left s mask (length o) h)

    -- without a book
    pub make_none : (n : ℕ) {r : Answer}
        → None ≡ pick (accepts indexed index s) (Some (length (made_book (plant_of s) mask))) None
        → r ≡ record { number = n; length = 0; drops = 0 }
        → n ≡ number_by indexed index s (make_fault s mask (length o))
        → Says s [] (make_ask indexed index mask) o o' [] [] r
    make_none n none e en =
        make_says indexed index s mask
        (writes_none _ (accepts indexed index s) _ _ o [] made_exact wrote n none e en)

    -- with one
    pub make_done : {long : ℕ}
        → Some long ≡ pick (accepts indexed index s) (Some (length (made_book (plant_of s) mask))) None
        → Says s [] (make_ask indexed index mask) o o' [] [] (record { number = 0; length = long; drops = 0 })
    unfolding over bytes_of
    make_done some =
        make_says indexed index s mask
        (writes_0 _ (accepts indexed index s) _ _ o [] made_exact wrote some (λ z e. (refl, refl)))

-- what a withdrawal answers, by an index or without one
module _ (indexed : Bool) (index s b : List ℕ) (gone : ℕ) (o d : List ℕ) where
  -- when it does not pass
  pub withdraw_refused : (n : ℕ) {after listed : List ℕ} {r : Answer} → r ≡ record { number = n; length = 0; drops = 0 }
      → n ≡ number_by indexed index s (withdraw_fault s b gone (length o) (length d))
      → withdraw_ahead s b gone (length o) (length d) ≡ false
      → Writes (number_by indexed index s (withdraw_fault s b gone (length o) (length d))) after listed o o d d r
  withdraw_refused n e en f =
      writes_refused n _ _ _ o d e en
      (λ z. not_both
      ((withdraw_exactly s b gone (length o) (length d)).0 (plain_passed indexed index s _ (sym en ∙ z))).0 f)

  -- and when it does
  module _ {o' : List ℕ} (h : withdraw_ahead s b gone (length o) (length d) ≡ true)
      (wrote : o' ≡ pick (accepts indexed index s) (over (withdrawn_book (plant_of s) b gone) o) o) where
    withdrawn_exact : accepts indexed index s
        ≡ eqb (number_by indexed index s (withdraw_fault s b gone (length o) (length d))) 0
    withdrawn_exact = by_exactly indexed index s _ (withdraw_left s b gone (length o) (length d) h)

    -- without a book
    pub withdraw_none : (n : ℕ) {r : Answer}
        → None ≡ pick (accepts indexed index s) (Some (length (withdrawn_book (plant_of s) b gone))) None
        → r ≡ record { number = n; length = 0; drops = 0 }
        → n ≡ number_by indexed index s (withdraw_fault s b gone (length o) (length d))
        → Says s b (withdraw_ask indexed index gone) o o' d d r
    withdraw_none n none e en =
        withdraw_says indexed index s b gone
        (writes_none _ (accepts indexed index s) _ _ o d withdrawn_exact wrote n none e en)

    -- with one: the states dropped are listed
    pub withdraw_done : {long count : ℕ} {d' : List ℕ}
        → Some long ≡ pick (accepts indexed index s) (Some (length (withdrawn_book (plant_of s) b gone))) None
        → count ≡ dropped_count b (take long o') d → d' ≡ written_drops b (take long o') d
        → Says s b (withdraw_ask indexed index gone) o o' d d' (record { number = 0; length = long; drops = count })
    withdraw_done some ec ed =
        let p = plant_of s in
        let ok = withdraw_passes s b gone (length o) (length d) h in
        let states = passes_states s b gone (length o) (length d) ok in
        let room : 2 * book_states b ≤ length d = omega (arith, drops_fit p (length d) ok.drops_ok) in
        let listed = room_listed b (withdrawn_book p b gone) d room in
        withdraw_says indexed index s b gone
        (writes_0 _ (accepts indexed index s) _ _ o d withdrawn_exact wrote some
        (λ z back. (rw back at ec ∙ listed.0, rw back at ed ∙ listed.1)))

-- the drop list of every accepted withdrawal
pub drops_listed : Listed
drops_listed = of_withdraw.1.1.1.1.0

-- what a return answers when it passes: its book is that of a making for the old mask and the moves returned
module _ (index s b : List ℕ) (back : ℕ) (o d : List ℕ) (old : ℕ) {o' : List ℕ}
    (h : withdraw_ahead s b back (length o) (length d) ≡ true) (mask_is : old ≡ book_mask b)
    (wrote : o' ≡ pick (accepts false index s) (over (made_book (plant_of s) (bit_or old back)) o) o) where
  returned_exact : accepts false index s ≡ eqb (withdraw_fault s b back (length o) (length d)) 0
  returned_exact = by_exactly false index s _ (withdraw_left s b back (length o) (length d) h)

  -- the two books are one
  same : made_book (plant_of s) (bit_or old back) ≡ returned_book (plant_of s) b back
  unfolding returned_book
  same = ap (λ (m : ℕ). made_book (plant_of s) (bit_or m back)) mask_is

  -- without a book
  pub return_none : (n : ℕ) {r : Answer}
      → None ≡ pick (accepts false index s) (Some (length (made_book (plant_of s) (bit_or old back)))) None
      → r ≡ record { number = n; length = 0; drops = 0 } → n ≡ withdraw_fault s b back (length o) (length d) → ReturnSays s b back o o' d d r
  return_none n none e en =
      record {
        writes =
            writes_none _ (accepts false index s) _ _ o d returned_exact (rw same at wrote) n (rw same at none) e en;
      }

  -- with one: the states gained are listed
  pub return_done : {long count : ℕ} {d' : List ℕ}
      → Some long ≡ pick (accepts false index s) (Some (length (made_book (plant_of s) (bit_or old back)))) None
      → count ≡ dropped_count (take long o') b d → d' ≡ written_drops (take long o') b d
      → ReturnSays s b back o o' d d' (record { number = 0; length = long; drops = count })
  return_done {long} {count} {d'} some ec ed =
      let p = plant_of s in
      let new = returned_book p b back in
      let ok = withdraw_passes s b back (length o) (length d) h in
      let turned = gained_dropped b new in
      let lists : return_fault s b back (length o) (length d) ≡ 0 → take long o' ≡ new
      → (count ≡ length (gained_states b new)) × (d' ≡ over (bytes_of (gained_states b new)) d) = λ z read.
      let states = (returning.right s b back (length o) (length d) z).is_book.states in
      let room : 2 * book_states new ≤ length d = omega (arith, drops_fit p (length d) ok.drops_ok) in
      let listed = room_listed new b d room in (
        rw read at ec ∙ listed.0 ∙ ap length (sym turned),
        rw read at ed ∙ listed.1 ∙ ap (λ (l : List ℕ). over (bytes_of l) d) (sym turned),
      ) in
      record {
        writes =
            writes_0 _ (accepts false index s) _ _ o d returned_exact (rw same at wrote) (rw same at some) lists;
      }

-- what the call that builds an index answers, by what it wrote
module _ (s o : List ℕ) {fits : Bool} {o' : List ℕ}
    (told : fits ≡ (eqb (plant_fault s) 0 && leb (index_long (length (plant_of s).arrows)) (length o)))
    (wrote : o' ≡ pick (eqb (plant_fault s) 0 && leb (index_long (length (plant_of s).arrows)) (length o))
    (over (index_bytes (plant_of s)) o) o) where
  -- nothing: it is refused
  pub index_none : (n : ℕ) {r : Answer} → fits ≡ false → r ≡ record { number = n; length = 0; drops = 0 }
      → n ≡ indexing_fault s (length o) → IndexSays s o o' r
  index_none n none e en =
      let f = sym told ∙ none in
      rw (rw f at wrote)
      (writes_refused n _ _ _ o [] e en
      (λ z. not_both (indexing_exactly s (length o) ∙ eq-eqb _ _ (sym en ∙ z)) f))

  -- the index
  pub index_done : (count : ℕ) → fits ≡ true → count ≡ word 3 s
      → IndexSays s o o' (record { number = 0; length = 8 + 2 * count; drops = 0 })
  unfolding over bytes_of index_long
  index_done count some e =
      let t = sym told ∙ some in
      let fine = eqb-true (plant_fault s) 0 (and_left (eqb (plant_fault s) 0) _ t) in
      record {
        number = sym (eqb-true _ _ (sym (indexing_exactly s (length o)) ∙ t));
        length_is = omega (arith, index_size s fine, arrows_length s, e);
        drops = refl;
        book = rw t at wrote;
        list = refl;
      }

-- what a list of withdrawals answers when it does not pass
pub list_refused : (s b m o d : List ℕ) (n : ℕ) {r : Answer} → r ≡ record { number = n; length = 0; drops = 0 }
    → n ≡ withdraw_list_fault s b m (length o) (length d) → list_ahead s b m (length o) (length d) ≡ false
    → WithdrawListSays s b m o o d d r
list_refused s b m o d n e en f =
    record {
      writes = writes_refused n _ _ _ o d e en
          (λ z. not_both ((list_exactly s b m (length o) (length d)).0 (sym en ∙ z)).0 f);
    }

-- what one that passes answers is what one withdrawal of all moves that its masks name does
pub list_says : {s b m o o' d d' : List ℕ} {r : Answer} → list_ahead s b m (length o) (length d) ≡ true
    → WithdrawSays s b (union_of (masks_of m)) o o' d d' r → WithdrawListSays s b m o o' d d' r
list_says {s} {b} {m} {o} {o'} {d} {d'} {r} h says =
    let number = (list_left s b m (length o) (length d) h).0 in
    elim (same_number r.number 0) [
      | inl z ↦ as_list says (number ∙ sym says.writes.number ∙ z)
      | inr some ↦
          let f = ne_eqb r.number 0 some in
          record {
            writes = record {
              number = says.writes.number ∙ sym number;
              length_is = rw f (rw f at says.writes.length_is);
              drops = rw f (rw f at says.writes.drops);
              book = rw f (rw f at says.writes.book);
              list = rw f (rw f at says.writes.list);
            };
          }
    ]
