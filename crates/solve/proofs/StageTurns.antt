-- The loops of a stage, turn by turn: the states that it may pass, and whether it can add one. Assumes nothing.
use mathlib.Core.Path.{◌≡◌, refl, sym, ap, ap₂, ◌∙◌}
use mathlib.Core.Logic.{⊎_elim}
use mathlib.Core.Bool.{Bool, true, false, ◌&&◌, ◌||◌, not}
use mathlib.Core.List.{List, [], ◌∷◌, ◌++◌, append-nil}
use Prim.Native.Nat.{ℕ, ◌+◌, ◌<◌}
use native.Mathlib.Numerals.{add-one}
use native.Mathlib.Omega.{arith}
use lib.Dec.{eqb, ltb}
use lib.ListN.{length, get_or, take, set, length-append, length-set}
use lib.Seq.{take-suc, take-suc-set, length-take-le, get_or-set_same, get_or-set_other}
use borrow.Author.Tests.{eq-eqb}
use Rattle.statements.specs.Sets.{numbers, is_in, filter}
use Rattle.statements.specs.Plants.{Plant, settled, move_into, can}
use Rattle.statements.specs.Books.{lost_mark}
use Rattle.sets.proofs.Tests.{same_number, not_both, and_true}
use Rattle.sets.proofs.Members.{Sifted, is_in_none, filter_snoc, filter_length}
use Rattle.sets.proofs.Iterate.{sifted_below}
use Rattle.solve.specs.Given.{below}
use Rattle.solve.specs.Stages.{passing, Opened, Calm}
use Rattle.solve.proofs.Lasts.{last_other, is_in_at}

-- the states that a stage may pass
pub opened_none : (p : Plant) (mask : ℕ) (earlier leave all : List ℕ) → Opened p mask [] earlier leave all 0
unfolding filter is_in
opened_none p mask earlier leave all =
    record { leaves = λ x m. absurd (is_in_none x m); list = refl; number = refl }

module _ {p : Plant} {mask : ℕ} {done earlier leave all : List ℕ} {count : ℕ}
    (o : Opened p mask done earlier leave all count) (x : ℕ) (room : x < length leave) {v : ℕ}
    (found : v ≡ move_into p mask earlier x) where
  opened_leaves : (y : ℕ) → is_in y (done ++ (x ∷ [])) ≡ true → get_or (set leave x v) y 0 ≡ move_into p mask earlier y
  opened_leaves y m =
      ⊎_elim
      (λ e. rw e (get_or-set_same leave x v 0 room ∙ found))
      (λ d. get_or-set_other leave x y v 0 d ∙ o.leaves y (sym (last_other y x done d) ∙ m))
      (same_number y x)

  -- the test of the loop
  module _ {t b : Bool} (is_settled : t ≡ settled p x) (leaves : b ≡ can p mask earlier x) where
    passes : (t || b) ≡ passing p mask earlier x
    unfolding passing
    passes = ap₂ (λ (a c : Bool). a || c) is_settled leaves

    -- told by the move
    pub by_move : b ≡ ltb v p.moves
    unfolding can
    by_move = leaves ∙ ap (λ (m : ℕ). ltb m p.moves) (sym found)

    pub opened_yes : count < length all → (t || b) ≡ true → {all' : List ℕ} {count' : ℕ} → all' ≡ set all count x
        → count' ≡ count + 1
        → (length all' ≡ length all) × Opened p mask (done ++ (x ∷ [])) earlier (set leave x v) all' count'
    opened_yes h e ea ec =
        let more : filter (passing p mask earlier) (done ++ (x ∷ [])) ≡ filter (passing p mask earlier) done ++ (x ∷ []) =
        rw (sym passes ∙ e) at (filter_snoc (passing p mask earlier) done x) in (
          ap length ea ∙ length-set all count x,
          record {
            leaves = opened_leaves;
            list = rw (ea, ec, add-one, take-suc-set all count x h, o.list, more) refl;
            number = ec ∙ rw (more, length-append) (omega (arith, o.number));
          },
        )

    pub opened_no : (t || b) ≡ false → {all' : List ℕ} {count' : ℕ} → all' ≡ all → count' ≡ count
        → (length all' ≡ length all) × Opened p mask (done ++ (x ∷ [])) earlier (set leave x v) all' count'
    opened_no e ea ec =
        let same : filter (passing p mask earlier) (done ++ (x ∷ [])) ≡ filter (passing p mask earlier) done =
        rw (sym passes ∙ e) at (filter_snoc (passing p mask earlier) done x)
        ∙ append-nil (filter (passing p mask earlier) done) in (
          ap length ea,
          record {
            leaves = opened_leaves;
            list = rw (ea, ec, same) o.list;
            number = ec ∙ rw same o.number;
          },
        )

-- a state of a start is one of the plant's
pub read_in : {s : ℕ} (start : List ℕ) → Sifted (numbers s 0) start → (k : ℕ) → k < length start → get_or start k 0 < s
read_in {s} start set k h = sifted_below s start set (get_or start k 0) (is_in_at start k h)

-- one more of them is read
pub one_more : (start : List ℕ) (k : ℕ) → k < length start → take (k + 1) start ≡ take k start ++ (get_or start k 0 ∷ [])
one_more start k h = rw add-one (take-suc start k 0 h)

-- no more states are listed than were read
pub opened_few : (start : List ℕ) (k : ℕ) {p : Plant} {mask count : ℕ} {earlier leave all : List ℕ}
    → Opened p mask (take k start) earlier leave all count → k < length start → count < length start
opened_few start k {p} {mask} {earlier = earlier} o h =
    omega (
      arith,
      o.number,
      filter_length (passing p mask earlier) (take k start),
      length-take-le k start (omega arith),
    )

-- a stage that adds nothing: one state more is passed over
pub calm_none : (p : Plant) (mask : ℕ) (stage : List ℕ) → Calm p mask [] stage
unfolding is_in
calm_none p mask stage = record { none = λ x m. absurd (is_in_none x m) }

pub calm_more : {p : Plant} {mask : ℕ} {done stage : List ℕ} → Calm p mask done stage → (x : ℕ)
    → (settled p x ≡ false → get_or stage x 0 ≡ lost_mark → can p mask (below stage 65535 p.states) x ≡ false)
    → Calm p mask (done ++ (x ∷ [])) stage
calm_more {done = done} c x h =
    record {
      none = λ y m.
          ⊎_elim
          (λ e. rw e h)
          (λ d. c.none y (sym (last_other y x done d) ∙ m))
          (same_number y x);
    }

-- the two tests of a turn
pub no_test : (p : Plant) (mask x : ℕ) (stage : List ℕ) {t : Bool} → t ≡ settled p x
    → (eqb (get_or stage x 0) 65535 && not t) ≡ false
    → settled p x ≡ false → get_or stage x 0 ≡ lost_mark → can p mask (below stage 65535 p.states) x ≡ false
no_test p mask x stage e off calm mark =
    absurd (not_both (and_true (eq-eqb (get_or stage x 0) 65535 mark) (ap not (e ∙ calm))) off)
