-- Demand 2: the books of a making and of a withdrawal from any book are right, being books within a test that holds at
-- states alone; the drop list is a filter of the states kept before, so that it rises, and the states still kept are
-- the others. Assumes nothing.
use mathlib.Core.Path.{◌≡◌, sym, ap, ◌∙◌, fun_ext, subst}
use mathlib.Core.Logic.{◌↔◌}
use mathlib.Core.Bool.{true, false, not, ◌&&◌, Bool-set}
use mathlib.Core.HProp.{h_prop_ext}
use mathlib.Core.List.{List}
use Prim.Native.Nat.{ℕ, ◌+◌, ◌<◌}
use native.Mathlib.Omega.{arith}
use native.Mathlib.Bridge.{le_prop}
use borrow.Author.Tests.{not-true}
use lib.ListN.{length}
use Rattle.statements.specs.Sets.{bit, is_in, numbers, filter}
use Rattle.statements.specs.Plants.{Plant, plant_of, allowed}
use Rattle.statements.specs.Books.{book_states, book_count, book_mask, is_lost, book_kept, less_mask, made_book, kept_before}
use Rattle.statements.specs.Books.{withdrawn_book, dropped_states}
use Rattle.statements.specs.Calls.{withdraw_fault}
use Rattle.statements.specs.Demands.{IsBook, KeptBefore, Rising, Right, Demand2}
use Rattle.sets.proofs.Tests.{and_true, and_left, and_right, same_test}
use Rattle.sets.proofs.Members.{filter_holds, filter_in, filter_same, filter_filter, filter_parts, numbers_holds}
use Rattle.sets.proofs.Members.{numbers_in_lem}
use Rattle.sets.proofs.Rising.{filter_rises}
use Rattle.kept.proofs.Kept.{kept_within_lem}
use Rattle.decoding.proofs.Faults.{PlantOk, plant_ok, allowed_below, book_ok, withdraw_ok}
use Rattle.demands.proofs.Plants.{given_made, given_withdrawn}
use Rattle.demands.proofs.Rows.{lost_kept}
use Rattle.demands.proofs.Winners.{Within}
use Rattle.demands.proofs.Books.{is_book, right}
use Rattle.demands.proofs.Service.{less_names}

-- the states kept in any book
kept_iff : (b : List ℕ) (x : ℕ) → (is_in x (book_kept b) ≡ true) ↔ ((x < book_states b) × (is_lost b x ≡ false))
unfolding book_kept
kept_iff b x =
    let all = numbers (book_states b) 0 in (
      λ h.
          let r = filter_holds (λ y. not (is_lost b y)) all x h in
          let l = numbers_holds (book_states b) 0 x r.0 in
          (omega arith, not-true (is_lost b x) r.1),
      λ h.
          filter_in (λ y. not (is_lost b y)) all x
          (numbers_in_lem (book_states b) 0 x (omega arith) (omega (arith, h.0))) (ap not h.1),
    )

-- the drop list: the states kept in the one book and lost in the other
pub dropped_iff :
    (b after : List ℕ) (x : ℕ) →
    (is_in x (dropped_states b after) ≡ true) ↔
    ((x < book_states b) × (is_lost b x ≡ false) × (is_lost after x ≡ true))
unfolding dropped_states
dropped_iff b after x = (
  λ h.
      let r = filter_holds (is_lost after) (book_kept b) x h in
      let k = (kept_iff b x).0 r.0 in
      (k.0, k.1, r.1),
  λ h. filter_in (is_lost after) (book_kept b) x ((kept_iff b x).1 (h.0, h.1)) h.2,
)

-- by rising number
pub dropped_rising : (b after : List ℕ) → Rising (dropped_states b after)
unfolding dropped_states book_kept
dropped_rising b after =
    rw filter_filter (filter_rises (λ x. not (is_lost b x) && is_lost after x) (book_states b) 0)

-- a book that keeps all that another keeps: it keeps these states and those that it alone keeps
module _ (b other : List ℕ) (same : book_states b ≡ book_states other)
    (more : (x : ℕ) → x < book_states b → is_lost other x ≡ false → is_lost b x ≡ false) where
  -- to be kept in both is to be kept in the other
  kept_both : (x : ℕ) → is_in x (numbers (book_states b) 0) ≡ true
      → (not (is_lost b x) && not (is_lost other x)) ≡ not (is_lost other x)
  kept_both x m =
      let below : x < book_states b = omega (arith, numbers_holds (book_states b) 0 x m) in
      same_test (not (is_lost b x) && not (is_lost other x)) (not (is_lost other x))
      (and_right (not (is_lost b x)) (not (is_lost other x)))
      (λ k. and_true (ap not (more x below (not-true (is_lost other x) k))) k)

  -- so that of the states kept in the one those kept in the other are all that the other keeps
  still_kept : filter (λ x. not (is_lost other x)) (book_kept b) ≡ book_kept other
  unfolding book_kept
  still_kept =
      let all = numbers (book_states b) 0 in
      filter_filter (λ x. not (is_lost other x)) (λ x. not (is_lost b x)) all
      ∙ filter_same (λ x. not (is_lost b x) && not (is_lost other x)) (λ x. not (is_lost other x)) all kept_both
      ∙ ap (λ (n : ℕ). filter (λ x. not (is_lost other x)) (numbers n 0)) same

  pub parts_add_up : length (dropped_states b other) + length (book_kept other) ≡ length (book_kept b)
  unfolding dropped_states
  parts_add_up = omega (arith, filter_parts (is_lost other) (book_kept b), ap length still_kept)

-- the states that a withdrawal may not leave are those at which the solver's test holds
before_is : (p : Plant) → PlantOk p → (b : List ℕ) → Within (kept_before p b) ≡ KeptBefore p b
unfolding kept_before
before_is p ok b =
    fun_ext (λ x. h_prop_ext (Bool-set (kept_before p b x) true)
    (λ q r i. (
      le_prop q.0 r.0 i,
      Bool-set (allowed p x) true q.1 r.1 i,
      Bool-set (is_lost b x) false q.2 r.2 i,
    ))
    (λ h.
    let a = and_left (allowed p x) (not (is_lost b x)) h in
    (allowed_below p ok x a, a, not-true (is_lost b x) (and_right (allowed p x) (not (is_lost b x)) h)))
    (λ q. and_true q.1 (ap not q.2)))

-- the book of an accepted withdrawal
module _ (s b : List ℕ) (gone room drops : ℕ) (h : withdraw_fault s b gone room drops ≡ 0) where
  abbrev After : List ℕ
  After = withdrawn_book (plant_of s) b gone

  -- what document 01 says of it
  new : IsBook (plant_of s) (less_mask (book_mask b) gone) (Within (kept_before (plant_of s) b)) After
  unfolding withdrawn_book
  new = is_book (given_withdrawn s b gone room drops h)

  withdrawn_right : Right (plant_of s) (less_mask (book_mask b) gone) (KeptBefore (plant_of s) b) After
  unfolding withdrawn_book
  withdrawn_right =
      subst (λ W. Right (plant_of s) (less_mask (book_mask b) gone) W After)
      (before_is (plant_of s) (plant_ok s (withdraw_ok s b gone room drops h).lent.plant) b)
      (right (given_withdrawn s b gone room drops h))

  -- a state that the new book keeps was kept before
  kept_before_lem : (x : ℕ) → x < (plant_of s).states → is_lost After x ≡ false → is_lost b x ≡ false
  unfolding withdrawn_book kept_before
  kept_before_lem x hx e =
      let p = plant_of s in
      let k = (lost_kept (given_withdrawn s b gone room drops h) x hx).0 e in
      let w = (kept_within_lem p (less_mask (book_mask b) gone) (kept_before p b) x k).1 in
      not-true (is_lost b x) (and_right (allowed p x) _ w)

  -- the states dropped and those still kept
  adds_up : length (dropped_states b After) + book_count After ≡ book_count b
  adds_up =
      let lent = (withdraw_ok s b gone room drops h).lent in
      let parts =
      parts_add_up b After (lent.states ∙ sym new.states)
      (λ x hx e. kept_before_lem x (omega (arith, hx, lent.states)) e) in
      omega (arith, parts, new.count, (book_ok b lent.book).count)

  -- its moves
  mask_less : (u : ℕ) → (bit u (book_mask After) ≡ true) ↔ ((bit u (book_mask b) ≡ true) × (bit u gone ≡ false))
  mask_less u = rw new.mask_is (less_names (book_mask b) gone u)

-- demand 2
pub demand_2 : Demand2
unfolding made_book withdrawn_book
demand_2 =
    record {
      made = λ s mask room h. right (given_made s mask room h);
      withdrawn = withdrawn_right;
      less = mask_less;
      dropped = λ s b gone room drops h x.
          rw (withdraw_ok s b gone room drops h).lent.states at (dropped_iff b (withdrawn_book (plant_of s) b gone) x);
      rising = dropped_rising;
      adds_up = adds_up;
    }
