-- Picking from a book: the set of an entry has exactly the moves that meet its rule, the listed move is its lowest, and
-- any pick from that of the goal arrived at, made anew at each step, serves, since the wait for that goal falls.
-- Assumes nothing.
use mathlib.Core.Path.{◌≡◌, sym, ◌∙◌}
use mathlib.Core.Logic.{◌↔◌, inl, inr, ⊎_elim}
use mathlib.Core.Bool.{Bool, true, false}
use mathlib.Core.List.{List}
use Prim.Native.Nat.{ℕ, zero, suc, ◌<◌}
use native.Mathlib.Omega.{arith}
use Rattle.statements.specs.Sets.{bit, lowest}
use Rattle.statements.specs.Plants.{Plant, goes_into, moves_into}
use Rattle.statements.specs.Books.{move_at, stage_at, is_lost, arrive, rule_in, good_moves, book_within}
use Rattle.statements.specs.Strategies.{Wins, Picks, Serves}
use Rattle.statements.specs.Demands.{Meets, Nearer, Below, Exits, Onward}
use Rattle.sets.proofs.Tests.{decided, not_both}
use Rattle.sets.proofs.Bits.{bit_none}
use Rattle.kept.proofs.Moves.{moves_bit, moves_lowest}
use Rattle.kept.proofs.Kept.{kept_within_lem}
use Rattle.winning.proofs.Goals.{arrive_below}
use Rattle.winning.proofs.Seeking.{Seeks, seeks_in_time, seeks_passed, seeks_again, few_unsettled}
use Rattle.winning.proofs.Following.{Closer}
use Rattle.winning.proofs.Runs.{meets_larger}
use Rattle.demands.proofs.Plants.{Given, moves_below, from_below}
use Rattle.demands.proofs.Rows.{IsKept, CanLeave, lost_kept, book_mask_lem, book_goals_lem}
use Rattle.demands.proofs.Rules.{rule_iff, book_move, book_into}
use Rattle.demands.proofs.Winners.{Within, guides, winners}
use Rattle.demands.proofs.Staying.{leave_iff}
use Rattle.demands.proofs.Words.{meets_same, plain_words, leave_words, onward_words}

-- in any book a state that has good moves is not lost
good_shown : (p : Plant) (b : List ℕ) (x i u : ℕ) → bit u (good_moves p b x i) ≡ true → is_lost b x ≡ false
unfolding good_moves
good_shown p b x i u h =
    elim (decided (is_lost b x)) [
      | inl l ↦ absurd (not_both (rw l at h) (bit_none u))
      | inr e ↦ e
    ]

module _ {p : Plant} {mask : ℕ} {within : ℕ → Bool} (given : Given p mask within) where
  module _ (x i : ℕ) (h : IsKept p mask within x) where
    -- the good moves of a kept state are those into the states that the rule allows
    good_is :
        let b = book_within p mask within in
        good_moves p b x i ≡ moves_into p mask (rule_in p b x i) x
    unfolding good_moves
    good_is = rw ((guides given).shown x h, book_mask_lem given)

    -- a move is in the set exactly when it goes there
    good_bit :
        (u : ℕ) →
        let b = book_within p mask within in
        bit u (good_moves p b x i) ≡ goes_into p mask (rule_in p b x i) x u
    good_bit u =
        rw (good_is)
        (moves_bit p mask (rule_in p (book_within p mask within) x i) x u (moves_below p given.plant))

  -- the set of an entry has exactly the moves into closer states, and none in a lost state
  good_closer :
      (x i u : ℕ) → x < p.states → i < p.goals →
      let b = book_within p mask within in
      (bit u (good_moves p b x i) ≡ true) ↔
      (IsKept p mask within x × Meets p mask x (Closer (IsKept p mask within) (CanLeave p mask within) b x i) u)
  good_closer x i u hx hi = (
    λ g.
        let k = (lost_kept given x hx).0 (good_shown p (book_within p mask within) x i u g) in
        (k, (rule_iff given x k i hi u).0 (sym (good_bit x i k u) ∙ g)),
    λ g. good_bit x i g.0 u ∙ (rule_iff given x g.0 i hi u).1 g.1,
  )

  -- so that they are available, and lead to kept states alone
  pub good_safe :
      (x i u : ℕ) → x < p.states → i < p.goals → bit u (good_moves p (book_within p mask within) x i) ≡ true →
      Meets p mask x (Wins p mask (Within within)) u
  good_safe x i u hx hi g =
      let b = book_within p mask within in
      meets_larger p mask x u (Closer (IsKept p mask within) (CanLeave p mask within) b x i)
      (Wins p mask (Within within)) (λ y c. (winners given y).0 c.stays) ((good_closer x i u hx hi).0 g).1

  -- in other words
  good_words :
      (x i u : ℕ) (good : ℕ → Type 0) → x < p.states → i < p.goals →
      let b = book_within p mask within in
      (IsKept p mask within x → (y : ℕ) →
      Closer (IsKept p mask within) (CanLeave p mask within) b x i y ↔ good y) →
      (bit u (good_moves p b x i) ≡ true) ↔ (Wins p mask (Within within) x × Meets p mask x good u)
  good_words x i u good hx hi same =
      let b = book_within p mask within in
      let closer : ℕ → Type 0 = Closer (IsKept p mask within) (CanLeave p mask within) b x i in (
        λ g.
            let r = (good_closer x i u hx hi).0 g in
            ((winners given x).0 r.0, (meets_same p mask x u closer good (same r.0)).0 r.1),
        λ g.
            let k = (winners given x).1 g.0 in
            (good_closer x i u hx hi).1 (k, (meets_same p mask x u closer good (same k)).1 g.1),
      )

  -- document 01's, and request (ix)'s
  pub good_iff :
      p.settles ≡ false → (x i u : ℕ) → x < p.states → i < p.goals →
      let b = book_within p mask within in
      (bit u (good_moves p b x i) ≡ true) ↔
      (Wins p mask (Within within) x × Meets p mask x (Nearer p mask (Within within) b x i) u)
  good_iff e x i u hx hi =
      good_words x i u (Nearer p mask (Within within) (book_within p mask within) x i) hx hi
      (λ k y. plain_words given x e k i y)

  pub exit_iff :
      (x i u : ℕ) → x < p.states → i < p.goals →
      let b = book_within p mask within in
      Exits p mask (Within within) b (stage_at b x) x →
      (bit u (good_moves p b x i) ≡ true) ↔
      (Wins p mask (Within within) x × Meets p mask x (Below p mask (Within within) b (stage_at b x)) u)
  exit_iff x i u hx hi q =
      let b = book_within p mask within in
      good_words x i u (Below p mask (Within within) b (stage_at b x)) hx hi
      (λ k y. leave_words given x ((leave_iff given x k).1 q) i y)

  pub onward_iff :
      (x i u : ℕ) → x < p.states → i < p.goals →
      let b = book_within p mask within in
      (Exits p mask (Within within) b (stage_at b x) x → ⊥) →
      (bit u (good_moves p b x i) ≡ true) ↔
      (Wins p mask (Within within) x × Meets p mask x (Onward p mask (Within within) b x i) u)
  onward_iff x i u hx hi q =
      good_words x i u (Onward p mask (Within within) (book_within p mask within) x i) hx hi
      (λ k y. onward_words given x (λ l. q ((leave_iff given x k).0 l)) i y)

  -- the set of a kept state is not empty, and the listed move is its lowest
  pub listed_lowest :
      (x i : ℕ) → x < p.states → i < p.goals →
      let b = book_within p mask within in
      is_lost b x ≡ false →
      (bit (move_at b x i) (good_moves p b x i) ≡ true) × (move_at b x i ≡ lowest p.moves (good_moves p b x i))
  listed_lowest x i hx hi e =
      let b = book_within p mask within in
      let k = (lost_kept given x hx).0 e in (
        good_bit x i k (move_at b x i) ∙ book_into given x k i hi,
        book_move given x k i hi ∙ rw (good_is x i k) (sym (moves_lowest p mask (rule_in p b x i) x)),
      )

  module _ (states goals moves : ℕ → ℕ) (begun : goals 0 < p.goals)
      (picks : Picks p (book_within p mask within) states goals moves) where
    -- every state of a sequence of picks has an arrow and is not lost, so that it is kept
    picks_kept : (n : ℕ) → IsKept p mask within (states n)
    picks_kept n =
        let b = book_within p mask within in
        let below = from_below p given.plant (states n) (moves n) (states (suc n)) (picks.leads n) in
        (lost_kept given (states n) below).0
        (good_shown p b (states n) (arrive b (states n) (goals n)) (moves n) (picks.good n))

    -- each leads on to the next
    picks_near :
        (n : ℕ) →
        let b = book_within p mask within in
        arrive b (states n) (goals n) < p.goals →
        Closer (IsKept p mask within) (CanLeave p mask within) b (states n) (arrive b (states n) (goals n)) (states (suc n))
    picks_near n hi =
        let b = book_within p mask within in
        let i = arrive b (states n) (goals n) in
        let into = sym (good_bit (states n) i (picks_kept n) (moves n)) ∙ picks.good n in
        ((rule_iff given (states n) (picks_kept n) i hi (moves n)).0 into).ends_well (states (suc n)) (picks.leads n)

    -- the goal arrived at is always a goal
    goal_arrived : (n : ℕ) → goals n < p.goals → arrive (book_within p mask within) (states n) (goals n) < p.goals
    goal_arrived n h =
        let b = book_within p mask within in
        let below = arrive_below b (states n) (goals n) (omega (arith, h, book_goals_lem given)) in
        omega (arith, below, book_goals_lem given)

    sought_below : (n : ℕ) → goals n < p.goals
    sought_below zero = begun
    sought_below (suc n) = rw (picks.seeks n) (goal_arrived n (sought_below n))

    near : (n : ℕ) →
        let b = book_within p mask within in
        Closer (IsKept p mask within) (CanLeave p mask within) b (states n) (arrive b (states n) (goals n)) (states (suc n))
    near n = picks_near n (goal_arrived n (sought_below n))

    -- the goals are sought as the book says
    picks_seek : Seeks p (book_within p mask within) states goals
    picks_seek =
        record {
          as_many = book_goals_lem given;
          begun = begun;
          next = picks.seeks;
          down = λ n. (near n).no_later;
          met = λ n i hi e.
              ⊎_elim (λ t. inl t) (λ t. inr ((near n).leaving t))
              ((guides given).met (states n) i (picks_kept n) hi e);
          falls = λ n hn. (near n).nearing;
        }

    -- any pick, made anew at each step, serves
    pub picks_serve : Serves p (book_within p mask within) states goals
    picks_serve =
        record {
          kept = λ n.
              let k = picks_kept n in
              ((kept_within_lem p mask within (states n) k).0, (guides given).shown (states n) k);
          passed = seeks_passed picks_seek;
          in_time = seeks_in_time picks_seek;
          again = seeks_again picks_seek;
          no_later = λ n. (near n).no_later;
          few = λ e n.
              omega (
                arith,
                few_unsettled p (book_within p mask within) states (λ m. (near m).no_later)
                    (λ m. ⊎_elim (λ t. inl t) (λ t. inr ((near m).leaving t))
                    ((guides given).calm e (states m) (picks_kept m))) n,
                (guides given).from_one (states n) (picks_kept n),
              );
        }
