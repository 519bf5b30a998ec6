-- The states of the first k stages are those from which a strategy stays settled, meeting the goals, until it comes to a
-- state with a move wholly into fewer of them. Assumes nothing.
use mathlib.Core.Path.{◌≡◌}
use mathlib.Core.Logic.{◌↔◌, inl, inr, ⊎_elim}
use mathlib.Core.Bool.{Bool, true, false, ◌||◌}
use mathlib.Core.List.{List}
use Prim.Native.Nat.{ℕ, zero, suc, ◌≤◌, ◌<◌}
use native.Mathlib.Omega.{arith}
use Rattle.statements.specs.Sets.{is_in}
use Rattle.statements.specs.Plants.{Plant, settled, move_into, can}
use Rattle.statements.specs.Kept.{held_within, stages_to, kept_within, stage_for}
use Rattle.statements.specs.Books.{stage_at, book_within}
use Rattle.statements.specs.Strategies.{Run, turns, Comes, Stays, following}
use Rattle.statements.specs.Demands.{Below, Exits}
use Rattle.sets.proofs.Tests.{decided, not_both, and_true, and_left, or_left}
use Rattle.kept.proofs.Moves.{into_available, into_ends, into_all, can_move, can_by}
use Rattle.kept.proofs.Moves.{available_below}
use Rattle.kept.proofs.Stages.{stages_none, stages_suc, stages_top, exit_in, calm}
use Rattle.kept.proofs.Kept.{kept_staged, kept_within_lem, shown_staged, stage_upto, upto_stage}
use Rattle.kept.proofs.Kept.{exits_iff}
use Rattle.winning.proofs.Runs.{holds_larger, meets_larger}
use Rattle.winning.proofs.Winners.{no_run}
use Rattle.winning.proofs.Following.{follows, run_kept}
use Rattle.demands.proofs.Plants.{Given, moves_below, some_goal}
use Rattle.demands.proofs.Rows.{IsKept, CanLeave, book_stage, sound, book_earlier}
use Rattle.demands.proofs.Winners.{Within, from_one, escapes, guides, winners}

module _ {p : Plant} {mask : ℕ} {within : ℕ → Bool} (given : Given p mask within) where
  abbrev B : List ℕ
  B = book_within p mask within

  -- the states of the first k stages, as the book shows them
  pub upto_shown : p.settles ≡ true → (k y : ℕ) →
      (is_in y (stages_to k p mask within) ≡ true) ↔ (IsKept p mask within y × (stage_at B y ≤ k))
  upto_shown e zero y = (
    λ m. absurd (stages_none p mask within y m),
    λ q. absurd (let l = from_one given y q.0 in omega (arith, q.1)),
  )
  upto_shown e (suc k) y = (
    λ m.
        let h : IsKept p mask within y =
        rw (kept_staged p mask within e) (stages_top p mask within (some_goal given) (suc k) y m) in
        let l = upto_stage p mask within (some_goal given) y h e k m in
        (h, omega (arith, l, book_stage given y h, shown_staged p mask within (some_goal given) e y)),
    λ q.
        stage_upto p mask within (some_goal given) y q.0 e k
        (omega (arith, q.1, book_stage given y q.0, shown_staged p mask within (some_goal given) e y)),
  )

  -- a state with a move wholly into stages below k + 1 has one into the first k
  exits_can : p.settles ≡ true → (k y : ℕ) → Exits p mask (Within within) B (suc k) y →
      can p mask (stages_to k p mask within) y ≡ true
  exits_can e k y q =
      let u = q.0 in
      can_by p mask (stages_to k p mask within) y u
      (available_below p mask y u (moves_below p given.plant) q.1.is_available)
      (into_all p mask (stages_to k p mask within) y u q.1.is_available
      (λ z m.
      let r = q.1.ends_well z m in
      (upto_shown e k z).1 ((winners given z).1 r.0, omega (arith, r.1))))

  -- a kept state can leave exactly when it has a move wholly into stages below its own
  pub leave_iff : (y : ℕ) → IsKept p mask within y →
      CanLeave p mask within y ↔ Exits p mask (Within within) B (stage_at B y) y
  leave_iff y h =
      let low = (stage_for p mask (kept_within p mask within) y).earlier in (
        λ l.
            let c = can_move p mask low y ((sound given y h).leads y l) in
            let u = move_into p mask low y in (
              u,
              record {
                is_available = into_available p mask low y u c.1;
                ends_well = λ z m.
                    let r = (book_earlier given y h z).0 (into_ends p mask low y u c.1 z m) in
                    ((winners given z).0 r.0, r.1);
              },
            ),
        λ q.
            let u = q.0 in
            (exits_iff p mask within (some_goal given) y h y).1
            (can_by p mask low y u
            (available_below p mask y u (moves_below p given.plant) q.1.is_available)
            (into_all p mask low y u q.1.is_available
            (λ z m.
            let r = q.1.ends_well z m in
            (book_earlier given y h z).1 ((winners given z).1 r.0, r.1)))),
      )

  -- moves into earlier stages are moves into stages below a later one
  exits_more : (y j k : ℕ) → j ≤ k → Exits p mask (Within within) B j y → Exits p mask (Within within) B k y
  exits_more y j k l q = (
    q.0,
    meets_larger p mask y q.0 (Below p mask (Within within) B j) (Below p mask (Within within) B k)
        (λ z r. (r.0, omega (arith, r.1, l))) q.1,
  )

  -- no strategy stays settled until it comes to earlier stages from a state that is in none of the first ones
  module _ (e : p.settles ≡ true) (k x : ℕ) (w : Stays p mask (Within within) (Exits p mask (Within within) B (suc k)) x)
      (o : is_in x (held_within p mask (can p mask (stages_to k p mask within)) (calm p mask within k)) ≡ false) where
    abbrev First : List ℕ
    First = held_within p mask (can p mask (stages_to k p mask within)) (calm p mask within k)

    module _ (states moves : ℕ → ℕ) (r : Run p mask w.0 x states moves) where
      inside : (m : ℕ) → within (states m) ≡ true
      inside m = w.1.holds.stays (turns states moves m) (states m) (r m)

      -- a run outside has not come to one that can leave
      not_come : (n : ℕ) → ((m : ℕ) → m ≤ n → is_in (states m) First ≡ false) →
          Comes (Exits p mask (Within within) B (suc k)) states n → ⊥
      not_come n out c =
          let m = c.0 in
          not_both
          (rw (stages_suc p mask within k) at
          (exit_in p mask within k (states m) (given.below (states m) (inside m)) (inside m)
          (exits_can e k (states m) c.2)))
          (out m c.1)

      calm_at : (n : ℕ) → ((m : ℕ) → m ≤ n → is_in (states m) First ≡ false) → calm p mask within k (states n) ≡ true
      calm_at n out =
          ⊎_elim
          (λ t. and_true (inside n) (or_left (settled p (states n)) (can p mask (stages_to k p mask within) (states n)) t))
          (λ c. absurd (not_come n out c))
          (w.1.calm states moves r n)

    stays_in : ⊥
    stays_in =
        no_run
        (escapes given (can p mask (stages_to k p mask within)) (calm p mask within k)
        (λ y q. and_left (within y) (settled p y || can p mask (stages_to k p mask within) y) q)
        (λ y. calm p mask within k y ≡ true) (λ y q s. inl s))
        x o w.0 w.1.holds calm_at
        (λ states moves r out.
        record {
          calms = λ deny. deny (0, λ m l. calm_at states moves r m (λ j q. out j));
          again = λ i n hi.
              let m = w.1.again states moves r i n hi in
              (m.0, m.1, ⊎_elim (λ t. t) (λ c. absurd (not_come states moves r m.0 (λ j q. out j) c)) m.2);
        })

  -- the states of the first stages are those from which a strategy stays settled until it comes to earlier ones
  pub stages_are : p.settles ≡ true → (x k : ℕ) → x < p.states → 0 < k →
      (IsKept p mask within x × (stage_at B x ≤ k)) ↔
      Stays p mask (Within within) (Exits p mask (Within within) B k) x
  stages_are e x zero hx l = absurd (omega arith)
  stages_are e x (suc k) hx l = (
    λ q.
        let f = follows (guides given) x 0 q.0 (some_goal given) in (
          following B 0,
          record {
            holds =
                holds_larger p mask (IsKept p mask within) (Within within) (λ y h. (kept_within_lem p mask within y h).1) x
                (following B 0) f.holds;
            calm = λ states moves r n.
                let z = run_kept (guides given) x 0 q.0 (some_goal given) states moves r n in
                ⊎_elim (λ t. inl t)
                (λ t. inr (
                  n,
                  omega arith,
                  exits_more (states n) (stage_at B (states n)) (suc k)
                      (omega (arith, z.1, q.1)) ((leave_iff (states n) z.0).0 t),
                ))
                ((guides given).calm e (states n) z.0);
            again = λ states moves r i n hi.
                let m = f.again states moves r i n hi in
                (m.0, m.1, inl m.2);
          },
        ),
    λ w. (upto_shown e (suc k) x).0 (in_stage w),
  )
    where
      in_stage : Stays p mask (Within within) (Exits p mask (Within within) B (suc k)) x →
          is_in x (stages_to (suc k) p mask within) ≡ true
      in_stage w =
          rw (stages_suc p mask within k)
          (⊎_elim (λ h. h) (λ o. absurd (stays_in e k x w o))
          (decided (is_in x (held_within p mask (can p mask (stages_to k p mask within)) (calm p mask within k)))))
