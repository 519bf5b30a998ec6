-- The words of document 01 fix a book's bytes: two books for one plant, moves in service and set not to be left are
-- the same, since kept states, least waits and lowest moves are. Assumes nothing.
use mathlib.Core.Path.{◌≡◌, sym, ◌∙◌, ap}
use mathlib.Core.Logic.{◌↔◌, inl, inr, ⊎_elim}
use mathlib.Core.Bool.{true, false, not}
use mathlib.Core.List.{List}
use Prim.Native.Nat.{ℕ, zero, suc, ◌≤◌, ◌<◌}
use native.Mathlib.Omega.{arith}
use native.Mathlib.Nat.{le_antisymm}
use native.Mathlib.Decide.{dec_lt}
use lib.ListN.{length}
use borrow.Author.Tests.{not-true, not-false}
use Rattle.statements.specs.Sets.{numbers, filter}
use Rattle.statements.specs.Plants.{Plant}
use Rattle.statements.specs.Books.{book_count, wait_at, move_at, stage_at, staged, is_lost, book_kept}
use Rattle.statements.specs.Strategies.{Wins, Stays}
use Rattle.statements.specs.Demands.{Lowest, Nearer, Below, Exits, Arrived, Onward, IsBook}
use Rattle.sets.proofs.Tests.{decided, same_number, same_test}
use Rattle.sets.proofs.Members.{filter_same, numbers_holds}
use Rattle.winning.proofs.Runs.{meets_larger, forces_larger, wins_within}
use Rattle.decoding.proofs.Sizes.{staged_of}
use Rattle.decoding.proofs.Entries.{lost_marks, lost_stage}
use Rattle.decoding.proofs.Unique.{same_books, head_words}

-- no move is lower than the lowest for as wide a property
not_lower :
    (p : Plant) (mask x u v : ℕ) (good other : ℕ → Type 0) → ((y : ℕ) → good y → other y) →
    Lowest p mask x good u → Lowest p mask x other v → u < v → ⊥
not_lower p mask x u v good other wider a b l =
    b.none_lower u l (meets_larger p mask x u good other wider a.meets)

-- there is one lowest move into the states with a property
pub lowest_same :
    (p : Plant) (mask x u v : ℕ) (good other : ℕ → Type 0) → ((y : ℕ) → good y ↔ other y) →
    Lowest p mask x good u → Lowest p mask x other v → u ≡ v
lowest_same p mask x u v good other same a b =
    elim (dec_lt u v) [
      | yes l ↦ absurd (not_lower p mask x u v good other (λ y. (same y).0) a b l)
      | no l ↦
          elim (dec_lt v u) [
            | yes m ↦ absurd (not_lower p mask x v u other good (λ y. (same y).1) b a m)
            | no m ↦ omega arith
          ]
    ]

-- what one book shows as kept another does
shown_in :
    (p : Plant) (mask : ℕ) (within : ℕ → Type 0) (b c : List ℕ) → IsBook p mask within b → IsBook p mask within c →
    (x : ℕ) → x < p.states → not (is_lost b x) ≡ true → not (is_lost c x) ≡ true
shown_in p mask within b c is_b is_c x hx e =
    ap not ((is_c.kept x hx).1 ((is_b.kept x hx).0 (not-true (is_lost b x) e)))

-- a strategy that stays settled until it comes out stays so until it comes to a state with a wider property
stays_larger :
    (p : Plant) (mask : ℕ) (within out other : ℕ → Type 0) (x : ℕ) → ((y : ℕ) → out y → other y) →
    Stays p mask within out x → Stays p mask within other x
stays_larger p mask within out other x wider w = (
  w.0,
  record {
    holds = w.1.holds;
    calm = λ states moves r n.
        ⊎_elim (λ t. inl t) (λ c. inr (c.0, c.1, wider (states c.0) c.2)) (w.1.calm states moves r n);
    again = λ states moves r i n hi.
        let m = w.1.again states moves r i n hi in
        (m.0, m.1, ⊎_elim (λ t. inl t) (λ c. inr (c.0, c.1, wider (states c.0) c.2)) m.2);
  },
)

-- one book's stages are at most another's: up to each stage, since those below are
lower_stage :
    (p : Plant) (mask : ℕ) (within : ℕ → Type 0) → ((x : ℕ) → within x → x < p.states) → p.settles ≡ true →
    (k : ℕ) (b c : List ℕ) → IsBook p mask within b → IsBook p mask within c → (x : ℕ) → Wins p mask within x →
    stage_at b x ≤ k → stage_at c x ≤ k
lower_stage p mask within below e zero b c is_b is_c x w l =
    absurd (let r = (is_b.has_stages e).range x (below x (wins_within p mask within x w)) w in omega (arith, l, r.0))
lower_stage p mask within below e (suc k) b c is_b is_c x w l =
    let hx = below x (wins_within p mask within x w) in
    (((is_c.has_stages e).stage x (suc k) hx (omega arith)).1
    (stays_larger p mask within (Exits p mask within b (suc k)) (Exits p mask within c (suc k)) x
    (λ y q. (
      q.0,
      meets_larger p mask y q.0 (Below p mask within b (suc k)) (Below p mask within c (suc k))
          (λ z r. (r.0, omega (arith, lower_stage p mask within below e k b c is_b is_c z r.0 (omega (arith, r.1))))) q.1,
    ))
    (((is_b.has_stages e).stage x (suc k) hx (omega arith)).0 (w, l)))).1

module _ (p : Plant) (mask : ℕ) (within : ℕ → Type 0) (below : (x : ℕ) → within x → x < p.states) (b c : List ℕ)
    (is_b : IsBook p mask within b) (is_c : IsBook p mask within c) where
  -- the same states are kept
  same_kept : (x : ℕ) → x < p.states → not (is_lost b x) ≡ not (is_lost c x)
  same_kept x hx =
      same_test (not (is_lost b x)) (not (is_lost c x)) (shown_in p mask within b c is_b is_c x hx)
      (shown_in p mask within c b is_c is_b x hx)

  -- with the same stages
  same_stage : (x : ℕ) → Wins p mask within x → stage_at b x ≡ stage_at c x
  same_stage x w =
      elim (decided p.settles) [
        | inl e ↦
            le_antisymm
            (lower_stage p mask within below e (stage_at c x) c b is_c is_b x w (omega arith))
            (lower_stage p mask within below e (stage_at b x) b c is_b is_c x w (omega arith))
        | inr e ↦ is_b.one_stage e x ∙ sym (is_c.one_stage e x)
      ]

module _ (p : Plant) (mask : ℕ) (within : ℕ → Type 0) (below : (x : ℕ) → within x → x < p.states) (b c : List ℕ)
    (is_b : IsBook p mask within b) (is_c : IsBook p mask within c) where
  -- what is below a stage in one book is in the other, and so is what can leave, and what a wait is for
  below_in : (k y : ℕ) → Below p mask within b k y → Below p mask within c k y
  below_in k y q = (q.0, omega (arith, q.1, same_stage p mask within below b c is_b is_c y q.0))

  exits_in : (k y : ℕ) → Exits p mask within b k y → Exits p mask within c k y
  exits_in k y q =
      (q.0, meets_larger p mask y q.0 (Below p mask within b k) (Below p mask within c k) (below_in k) q.1)

  arrived_in : (x i y : ℕ) → Wins p mask within x → Arrived p mask within b x i y → Arrived p mask within c x i y
  arrived_in x i y w t =
      let same = same_stage p mask within below b c is_b is_c in
      ⊎_elim (λ g. inl g)
      (λ r.
      ⊎_elim
      (λ q. inr (inl (q.0, omega (arith, q.1, same x w, same y q.0))))
      (λ q. inr (inr (q.0, sym (same y q.0) ∙ q.1 ∙ same x w, rw (same x w) at (exits_in (stage_at b x) y q.2))))
      r)
      t

  -- one book's waits are at most another's
  lower_wait : (x i : ℕ) → x < p.states → i < p.goals → Wins p mask within x → wait_at b x i ≤ wait_at c x i
  lower_wait x i hx hi w =
      let n = wait_at c x i in
      let same = same_stage p mask within below b c is_b is_c x w in
      elim (decided p.settles) [
        | inl e ↦
            ((is_b.has_stages e).wait x i n hx hi w).1
            (forces_larger p mask (Below p mask within c (suc (stage_at c x))) (Below p mask within b (suc (stage_at b x)))
            (λ y q. (q.0, omega (arith, q.1, same, same_stage p mask within below b c is_b is_c y q.0))) x
            (Arrived p mask within c x i) (Arrived p mask within b x i) (back x i w) n
            (((is_c.has_stages e).wait x i n hx hi w).0 (omega arith)))
        | inr e ↦ (is_b.wait e x i n hx hi w).1 ((is_c.wait e x i n hx hi w).0 (omega arith))
      ]
    where
      back : (x i : ℕ) → Wins p mask within x → (y : ℕ) → Arrived p mask within c x i y → Arrived p mask within b x i y
      back x i w y t =
          let same = same_stage p mask within below b c is_b is_c in
          ⊎_elim (λ g. inl g)
          (λ r.
          ⊎_elim
          (λ q. inr (inl (q.0, omega (arith, q.1, same x w, same y q.0))))
          (λ q. inr (inr (
            q.0,
            same y q.0 ∙ q.1 ∙ sym (same x w),
            rw (same x w) (
              q.2.0,
              meets_larger p mask y q.2.0 (Below p mask within c (stage_at c x)) (Below p mask within b (stage_at c x))
                  (λ z m. (m.0, omega (arith, m.1, same z m.0))) q.2.1,
            ),
          )))
          r)
          t

module _ (p : Plant) (mask : ℕ) (within : ℕ → Type 0) (below : (x : ℕ) → within x → x < p.states) (b c : List ℕ)
    (is_b : IsBook p mask within b) (is_c : IsBook p mask within c) where
  -- the same waits and moves
  same_wait : (x i : ℕ) → Wins p mask within x → i < p.goals → wait_at b x i ≡ wait_at c x i
  same_wait x i w hi =
      let hx = below x (wins_within p mask within x w) in
      le_antisymm (lower_wait p mask within below b c is_b is_c x i hx hi w)
      (lower_wait p mask within below c b is_c is_b x i hx hi w)

  abbrev Same : (x : ℕ) → Wins p mask within x → stage_at b x ≡ stage_at c x
  Same = same_stage p mask within below b c is_b is_c

  plain_move : p.settles ≡ false → (x i : ℕ) → Wins p mask within x → i < p.goals → move_at b x i ≡ move_at c x i
  plain_move e x i w hi =
      let hx = below x (wins_within p mask within x w) in
      lowest_same p mask x (move_at b x i) (move_at c x i)
      (Nearer p mask within b x i) (Nearer p mask within c x i)
      (λ y. (
        λ g. (g.0, rw (← same_wait x i w hi, ← same_wait y i g.0 hi) g.1),
        λ g. (g.0, rw (same_wait x i w hi, same_wait y i g.0 hi) g.1),
      ))
      (is_b.move e x i hx hi w) (is_c.move e x i hx hi w)

  -- of a state that can leave, and of one that cannot
  exit_same : p.settles ≡ true → (x i : ℕ) → Wins p mask within x → i < p.goals →
      Exits p mask within b (stage_at b x) x → move_at b x i ≡ move_at c x i
  exit_same e x i w hi q =
      let hx = below x (wins_within p mask within x w) in
      lowest_same p mask x (move_at b x i) (move_at c x i)
      (Below p mask within b (stage_at b x)) (Below p mask within c (stage_at c x))
      (λ y. (
        λ g. (g.0, omega (arith, g.1, Same x w, Same y g.0)),
        λ g. (g.0, omega (arith, g.1, Same x w, Same y g.0)),
      ))
      ((is_b.has_stages e).exit_move x i hx hi w q)
      ((is_c.has_stages e).exit_move x i hx hi w
      (rw (Same x w) at (exits_in p mask within below b c is_b is_c (stage_at b x) x q)))

  onward_same : p.settles ≡ true → (x i : ℕ) → Wins p mask within x → i < p.goals →
      (Exits p mask within b (stage_at b x) x → ⊥) → move_at b x i ≡ move_at c x i
  onward_same e x i w hi q =
      let hx = below x (wins_within p mask within x w) in
      lowest_same p mask x (move_at b x i) (move_at c x i)
      (Onward p mask within b x i) (Onward p mask within c x i)
      (λ y. (
        λ g. (
          (g.0.0, omega (arith, g.0.1, Same x w, Same y g.0.0)),
          rw (← same_wait x i w hi, ← same_wait y i g.0.0 hi, ← Same x w, ← Same y g.0.0) g.1,
        ),
        λ g. (
          (g.0.0, omega (arith, g.0.1, Same x w, Same y g.0.0)),
          rw (same_wait x i w hi, same_wait y i g.0.0 hi, Same x w, Same y g.0.0) g.1,
        ),
      ))
      ((is_b.has_stages e).move x i hx hi w q)
      ((is_c.has_stages e).move x i hx hi w
      (λ r. q (rw (← Same x w) at (exits_in p mask within below c b is_c is_b (stage_at c x) x r))))

  same_move : (x i : ℕ) → Wins p mask within x → i < p.goals → move_at b x i ≡ move_at c x i
  same_move x i w hi =
      elim (decided p.settles) [
        | inr e ↦ plain_move e x i w hi
        | inl e ↦
            ⊎_elim (λ q. q) (λ d. absurd (d (onward_same e x i w hi (λ q. d (exit_same e x i w hi q)))))
            (same_number (move_at b x i) (move_at c x i))
      ]

  -- a state lost in one is lost in the other
  lost_too : (x : ℕ) → x < p.states → is_lost b x ≡ true → is_lost c x ≡ true
  lost_too x hx l =
      not-false (is_lost c x) (sym (same_kept p mask within below b c is_b is_c x hx) ∙ ap not l)

  -- its sort
  sort_of : (a : List ℕ) → IsBook p mask within a → 0 < p.states → staged a ≡ p.settles
  sort_of a is l =
      staged_of a p.settles (rw (is.states, is.goals) (is.total ∙ is.size)) (omega (arith, is.states))

  -- the stages of all states
  stage_too : p.settles ≡ true → (x : ℕ) → x < p.states → stage_at b x ≡ stage_at c x
  stage_too e x hx =
      elim (decided (is_lost b x)) [
        | inl l ↦
            lost_stage b x (sort_of b is_b (omega arith) ∙ e) l
            ∙ sym (lost_stage c x (sort_of c is_c (omega arith) ∙ e) (lost_too x hx l))
        | inr k ↦ Same x ((is_b.kept x hx).0 k)
      ]

  -- the entries of a state
  same_entry :
      (x i : ℕ) → x < p.states → i < p.goals → (wait_at b x i ≡ wait_at c x i) × (move_at b x i ≡ move_at c x i)
  same_entry x i hx hi =
      elim (decided (is_lost b x)) [
        | inl l ↦
            let r = lost_marks b x i l (rw is_b.goals hi) in
            let other = lost_too x hx l in
            let q = lost_marks c x i other (rw is_c.goals hi) in
            (r.0 ∙ sym q.0, r.1 ∙ sym q.1)
        | inr k ↦
            let w = (is_b.kept x hx).0 k in
            (same_wait x i w hi, same_move x i w hi)
      ]

  same_count : book_count b ≡ book_count c
  unfolding book_kept
  same_count =
      let all = numbers p.states 0 in
      let same : filter (λ x. not (is_lost b x)) all ≡ filter (λ x. not (is_lost c x)) all =
      filter_same (λ x. not (is_lost b x)) (λ x. not (is_lost c x)) all λ x m.
      same_kept p mask within below b c is_b is_c x (omega (arith, numbers_holds p.states 0 x m)) in
      is_b.count ∙ rw (is_b.states, is_c.states) (ap length same) ∙ sym is_c.count

  -- the words of document 01 fix a book's bytes
  pub one_book : 0 < p.states → b ≡ c
  one_book some =
      same_books b c p.settles p.states p.goals (record {
        bytes_b = is_b.bytes;
        bytes_c = is_c.bytes;
        long_b = is_b.size;
        long_c = is_c.size;
        sort_b = sort_of b is_b some;
        sort_c = sort_of c is_c some;
        stages = stage_too;
        goals_b = is_b.goals;
        goals_c = is_c.goals;
        head = head_words b c is_b.bytes is_c.bytes (cc) (cc) (cc) same_count (cc) (cc) (cc);
        waits = λ x i hx hi. (same_entry x i hx hi).0;
        moves = λ x i hx hi. (same_entry x i hx hi).1;
      })
