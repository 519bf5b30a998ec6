-- Where a move may lead by the rule of an entry, as a test of one state. Assumes nothing.
use mathlib.Core.Path.{◌≡◌, refl, sym, ap, ◌∙◌}
use mathlib.Core.Logic.{⊎_elim}
use mathlib.Core.Bool.{Bool, true, false, ◌||◌, not, or-false}
use mathlib.Core.List.{List}
use Prim.Native.Nat.{ℕ}
use native.Mathlib.Decide.{dec_lt}
use native.Mathlib.Omega.{arith}
use lib.Dec.{eqb, ltb}
use borrow.Author.Tests.{ltb-true, lt-ltb, ltb-false}
use Rattle.statements.specs.Sets.{bit, bits, first, numbers, is_in, filter}
use Rattle.statements.specs.Plants.{Plant, goes_into, move_into, moves_into, can}
use Rattle.statements.specs.Books.{book_states, book_mask, staged, stage_at, wait_at, is_lost, book_kept, nearer_in, earlier_in}
use Rattle.statements.specs.Books.{onward_in, rule_in, good_moves}
use Rattle.sets.proofs.Tests.{decided, not_both, and_true, and_left, and_right, same_test}
use Rattle.sets.proofs.Members.{filter_holds, filter_in, filter_same, numbers_holds, numbers_in_lem}
use Rattle.sets.proofs.First.{first_holds, first_before}
use Rattle.sets.proofs.Bits.{bit_none, bits_at, bits_past, all_bits}
use Rattle.consult.specs.Checks.{closer, nearer_than, leads_in}

module _ (b : List ℕ) (early : Bool) (x i y : ℕ) where
  -- the states that the book keeps, and those of them that are near enough
  abbrev Kept : ℕ → Bool
  Kept z = not (is_lost b z)

  abbrev Near : ℕ → Bool
  Near z = closer b (stage_at b x) (wait_at b x i) i early z

  abbrev All : List ℕ
  All = numbers (book_states b) 0

  -- a state is among those where a move may lead just when it passes the test
  pub leads_is : is_in y (leads_in b early x i) ≡ nearer_than b (stage_at b x) (wait_at b x i) i early y
  unfolding leads_in book_kept nearer_than
  leads_is =
      same_test _ _
      (λ m.
      let near = filter_holds Near (filter Kept All) y m in
      let kept = filter_holds Kept All y near.0 in
      let below = numbers_holds (book_states b) 0 y kept.0 in
      and_true (lt-ltb y (book_states b) (omega arith)) (and_true kept.1 near.1))
      (λ t.
      let below = ltb-true y (book_states b) (and_left (ltb y (book_states b)) _ t) in
      let both = and_right (ltb y (book_states b)) _ t in
      filter_in Near (filter Kept All) y
      (filter_in Kept All y (numbers_in_lem (book_states b) 0 y (omega arith) (omega arith))
      (and_left (Kept y) (Near y) both))
      (and_right (Kept y) (Near y) both))

-- a mask of moves is 0 just where there is none
module _ (p : Plant) (mask : ℕ) (ys : List ℕ) (x : ℕ) where
  abbrev Goes : ℕ → Bool
  Goes = goes_into p mask ys x

  pub none_can : moves_into p mask ys x ≡ 0 → can p mask ys x ≡ false
  unfolding can move_into moves_into
  none_can e =
      ⊎_elim
      (λ c.
      let below = ltb-true (first p.moves 0 Goes) p.moves c in
      let u = first p.moves 0 Goes in
      let holds = bits_at Goes p.moves u below ∙ first_holds p.moves 0 Goes (omega arith) in
      absurd (not_both holds (ap (bit u) e ∙ bit_none u)))
      (λ c. c)
      (decided (ltb (first p.moves 0 Goes) p.moves))

  pub some_can : (moves_into p mask ys x ≡ 0 → ⊥) → can p mask ys x ≡ true
  unfolding can move_into moves_into
  some_can d =
      ⊎_elim
      (λ c. c)
      (λ c.
      let past = ltb-false (first p.moves 0 Goes) p.moves c in
      absurd (d (all_bits (bits p.moves 0 Goes) 0
      (λ u. elim (dec_lt u p.moves) [
        | yes l ↦
            bits_at Goes p.moves u l ∙ first_before p.moves 0 Goes u (omega arith) (omega arith)
            ∙ sym (bit_none u)
        | no l ↦ bits_past Goes p.moves 0 u (omega arith) ∙ sym (bit_none u)
      ]))))
      (decided (ltb (first p.moves 0 Goes) p.moves))

-- the two parts of the rule
module _ (b : List ℕ) (x i : ℕ) where
  leads_early : leads_in b true x i ≡ earlier_in b x
  unfolding leads_in closer earlier_in
  leads_early =
      filter_same (closer b (stage_at b x) (wait_at b x i) i true) (λ y. ltb (stage_at b y) (stage_at b x)) (book_kept b)
      (λ y m. or-false (ltb (stage_at b y) (stage_at b x)))

  leads_onward : leads_in b false x i ≡ onward_in b x i
  unfolding leads_in closer onward_in
  leads_onward = refl

  one_stage : staged b ≡ false → (y : ℕ) → stage_at b y ≡ 1
  unfolding stage_at
  one_stage e y = rw e refl

  leads_plain : staged b ≡ false → leads_in b false x i ≡ nearer_in b x i
  unfolding leads_in closer nearer_in
  leads_plain e =
      filter_same (closer b (stage_at b x) (wait_at b x i) i false)
      (λ y. eqb (wait_at b x i) 0 || ltb (wait_at b y i) (wait_at b x i)) (book_kept b)
      (λ y m. rw (one_stage e y, one_stage e x) refl)

-- the moves of a lost state, and of a kept one
module _ (p : Plant) (b : List ℕ) (x i : ℕ) where
  pub good_lost : is_lost b x ≡ true → good_moves p b x i ≡ 0
  unfolding good_moves
  good_lost l = rw l

  good_by : (ys : List ℕ) {mask : ℕ} → is_lost b x ≡ false → rule_in p b x i ≡ ys → mask ≡ moves_into p (book_mask b) ys x
      → mask ≡ good_moves p b x i
  unfolding good_moves
  good_by ys l r e = rw (l, r) e

  module _ (lost : is_lost b x ≡ false) where
    pub good_plain : staged b ≡ false → {mask : ℕ} → mask ≡ moves_into p (book_mask b) (leads_in b false x i) x
        → mask ≡ good_moves p b x i
    unfolding rule_in
    good_plain s e = good_by (leads_in b false x i) lost (rw s (sym (leads_plain b x i s))) e

    module _ (s : staged b ≡ true) {early : ℕ} (is : early ≡ moves_into p (book_mask b) (leads_in b true x i) x) where
      leaves : early ≡ moves_into p (book_mask b) (earlier_in b x) x
      leaves = is ∙ ap (λ (ys : List ℕ). moves_into p (book_mask b) ys x) (leads_early b x i)

      pub good_early : (early ≡ 0 → ⊥) → early ≡ good_moves p b x i
      unfolding rule_in
      good_early d =
          good_by (earlier_in b x) lost
          (rw (s, some_can p (book_mask b) (earlier_in b x) x (λ e. d (leaves ∙ e))) refl) leaves

      pub good_onward : early ≡ 0 → {mask : ℕ} → mask ≡ moves_into p (book_mask b) (leads_in b false x i) x
          → mask ≡ good_moves p b x i
      unfolding rule_in
      good_onward z e =
          good_by (leads_in b false x i) lost
          (rw (s, none_can p (book_mask b) (earlier_in b x) x (sym leaves ∙ z)) (sym (leads_onward b x i))) e
