-- What the calls read from a book whose numbers fit: which states are lost and kept, and that it is accepted.
-- Assumes nothing.
use mathlib.Core.Path.{◌≡◌, refl, sym, ◌∙◌, ap}
use mathlib.Core.Logic.{inl, inr}
use mathlib.Core.Bool.{Bool, true, false, ◌&&◌, ◌||◌, not, not-not}
use mathlib.Core.List.{List}
use Prim.Native.Nat.{ℕ, ◌≤◌, ◌<◌}
use native.Mathlib.Omega.{arith}
use lib.Dec.{eqb, ltb, leb}
use lib.ListN.{length}
use borrow.Author.Tests.{lt-ltb, le-leb, eq-eqb, ne_eqb}
use Rattle.statements.specs.Sets.{bit, every, is_in, numbers, filter}
use Rattle.statements.specs.Plants.{Plant}
use Rattle.statements.specs.Kept.{wait_of}
use Rattle.statements.specs.Books.{lost_mark, book_long, book_bytes, book_states, book_moves, book_goals, book_mask, wait_at}
use Rattle.statements.specs.Books.{book_count, book_total, staged, move_at, stage_lost, is_lost, stage_held, is_held, book_kept}
use Rattle.statements.specs.Books.{book_head_ok, rows_ok, book_fault}
use Rattle.statements.specs.Calls.{alike}
use Rattle.sets.proofs.Tests.{decided, and_true, and_none, or_left, or_right}
use Rattle.sets.proofs.Numbers.{every_all, every_none}
use Rattle.sets.proofs.Members.{filter_same, numbers_holds}
use Rattle.decoding.proofs.Header.{book_length, read_states, read_moves, read_goals, read_count, read_mask}
use Rattle.decoding.proofs.Header.{read_rows_at, read_total, read_staged}
use Rattle.decoding.proofs.Sizes.{long_is}
use Rattle.decoding.proofs.Entries.{wait_kept, move_kept, wait_lost, move_lost, stage_kept, stage_lost_lem}
use Rattle.decoding.proofs.Fits.{Fits, kept_below}

long_least : (t : Bool) (s n : ℕ) → 16 ≤ book_long t s n
long_least t s n = omega (arith, long_is t s n)

-- the length is one of the two
sort_known : (b : List ℕ) (t : Bool) → book_total b ≡ book_long t (book_states b) (book_goals b) →
    (eqb (book_total b) (book_long false (book_states b) (book_goals b)) || staged b) ≡ true
unfolding staged
sort_known b true e =
    or_right (eqb (book_total b) (book_long false (book_states b) (book_goals b))) (staged b) (eq-eqb _ _ e)
sort_known b false e =
    or_left (eqb (book_total b) (book_long false (book_states b) (book_goals b))) (staged b) (eq-eqb _ _ e)

-- a book for as many states, moves and goals as the plant has
pub book_alike : (p : Plant) (mask : ℕ) (kept : List ℕ) → alike p (book_bytes p mask kept) ≡ true
unfolding alike
book_alike p mask kept =
    and_true (eq-eqb _ _ (read_states p mask kept))
    (and_true (eq-eqb _ _ (read_moves p mask kept))
    (and_true (eq-eqb _ _ (read_goals p mask kept)) (eq-eqb _ _ (read_total p mask kept))))

module _ (p : Plant) (mask : ℕ) (kept : List ℕ) (fits : Fits p mask kept) where
  -- a lost state has the mark for its stage, and a kept state has a stage
  stage_marked : (x : ℕ) → x < p.states → is_in x kept ≡ false → stage_lost (book_bytes p mask kept) x ≡ true
  unfolding stage_lost
  stage_marked x hx h =
      elim (decided p.settles) [
        | inl e ↦ rw (read_staged p mask kept (omega arith) ∙ e) (eq-eqb _ _ (stage_lost_lem p mask kept e x hx h))
        | inr e ↦ rw (read_staged p mask kept (omega arith) ∙ e) refl
      ]

  stage_ranged : (x : ℕ) → x < p.states → is_in x kept ≡ true → stage_held (book_bytes p mask kept) x ≡ true
  unfolding stage_held
  stage_ranged x hx h =
      elim (decided p.settles) [
        | inl e ↦
            let r = fits.stages e x h in
            rw (read_staged p mask kept (omega arith) ∙ e, stage_kept p mask kept e x hx h, read_states)
            (and_true (le-leb _ _ r.0) (le-leb _ _ r.1))
        | inr e ↦ rw (read_staged p mask kept (omega arith) ∙ e) refl
      ]

  pub book_lost : (x : ℕ) → x < p.states → is_lost (book_bytes p mask kept) x ≡ not (is_in x kept)
  unfolding is_lost
  book_lost x hx =
      let b = book_bytes p mask kept in
      let test : ℕ → Bool = λ i. eqb (wait_at b x i) lost_mark && eqb (move_at b x i) lost_mark in
      elim (decided (is_in x kept)) [
        | inl h ↦
            let first : wait_at b x 0 ≡ wait_of p mask kept 0 x = wait_kept p mask kept x 0 hx (omega arith) h in
            let short : wait_of p mask kept 0 x ≤ 1023 = fits.waits x 0 h (omega arith) in
            let unmarked : eqb (wait_at b x 0) lost_mark ≡ false = ne_eqb (wait_at b x 0) lost_mark (omega arith) in
            let goal : 0 < book_goals b = omega (arith, read_goals p mask kept) in
            rw h
            (and_none (stage_lost b x) (every (book_goals b) 0 test)
            (every_none (book_goals b) 0 test 0 (omega arith) (omega arith) (rw unmarked)))
        | inr h ↦ rw h
            (and_true (stage_marked x hx h) (every_all (book_goals b) 0 test λ i low high.
            let hi : i < p.goals = omega (arith, read_goals p mask kept) in
            and_true (eq-eqb _ _ (wait_lost p mask kept x i hx hi h))
            (eq-eqb _ _ (move_lost p mask kept x i hx hi h))))
      ]

  pub book_kept_lem : book_kept (book_bytes p mask kept) ≡ kept
  unfolding book_kept
  book_kept_lem =
      let b = book_bytes p mask kept in
      let all = numbers p.states 0 in
      let same : filter (λ x. not (is_lost b x)) all ≡ filter (λ x. is_in x kept) all =
      filter_same (λ x. not (is_lost b x)) (λ x. is_in x kept) all λ x m.
      rw (book_lost x (omega (arith, numbers_holds p.states 0 x m))) (not-not (is_in x kept)) in
      rw read_states (same ∙ sym fits.kept_set)

  pub book_count_lem : book_count (book_bytes p mask kept) ≡ length (book_kept (book_bytes p mask kept))
  book_count_lem = read_count p mask kept ∙ ap length (sym book_kept_lem)

  pub book_held : (x : ℕ) → is_in x kept ≡ true → is_held (book_bytes p mask kept) x ≡ true
  unfolding is_held
  book_held x h =
      let b = book_bytes p mask kept in
      let test : ℕ → Bool =
      λ i. leb (wait_at b x i) 1023 && (ltb (move_at b x i) (book_moves b) && bit (move_at b x i) (book_mask b)) in
      let hx : x < p.states = kept_below p mask kept fits x h in
      and_true (stage_ranged x hx h) (every_all (book_goals b) 0 test λ i low high.
      let hi : i < p.goals = omega (arith, read_goals p mask kept) in
      rw (wait_kept p mask kept x i hx hi h, move_kept p mask kept x i hx hi h, read_moves, read_mask)
      (and_true (le-leb _ _ (fits.waits x i h hi))
      (and_true (lt-ltb _ _ (fits.moves_ok x i h hi).0) (fits.moves_ok x i h hi).1)))

  pub book_head : book_head_ok (book_bytes p mask kept) ≡ true
  unfolding book_head_ok
  book_head =
      let long = book_long p.settles p.states p.goals in
      let large : 16 ≤ long = long_least p.settles p.states p.goals in
      let known = sort_known (book_bytes p mask kept) p.settles (rw (read_states, read_goals) (read_total p mask kept)) in
      rw (known, book_length, read_states, read_moves, read_goals, read_rows_at, read_total, read_mask)
      (and_true (le-leb _ _ large)
      (and_true (le-leb _ _ fits.sizes.states_least)
      (and_true (le-leb _ _ fits.sizes.states_most)
      (and_true (le-leb _ _ fits.sizes.moves_least)
      (and_true (le-leb _ _ fits.sizes.moves_most)
      (and_true (le-leb _ _ fits.sizes.goals_least)
      (and_true (le-leb _ _ fits.sizes.goals_most)
      (and_true fits.mask_ok_lem (eq-eqb long long refl)))))))))

  pub book_rows : rows_ok (book_bytes p mask kept) ≡ true
  unfolding rows_ok
  book_rows =
      let b = book_bytes p mask kept in
      let either : every (book_states b) 0 (λ x. is_lost b x || is_held b x) ≡ true =
      every_all (book_states b) 0 (λ x. is_lost b x || is_held b x) λ x low high.
      elim (decided (is_in x kept)) [
        | inl h ↦ or_right (is_lost b x) (is_held b x) (book_held x h)
        | inr h ↦ or_left (is_lost b x) (is_held b x) (rw (book_lost x (omega (arith, read_states p mask kept)), h))
      ] in
      and_true either (eq-eqb _ _ book_count_lem)

  pub book_accepted : book_fault (book_bytes p mask kept) ≡ 0
  unfolding book_fault
  book_accepted = rw (book_head, book_rows)
