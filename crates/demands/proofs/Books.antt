-- A book's bytes are what document 01 says of them, and no other bytes are: kept states are winners, waits are the
-- least within which a goal is forced, and listed moves the lowest that serve. Assumes nothing.
use mathlib.Core.Path.{◌≡◌, sym, ◌∙◌}
use mathlib.Core.Logic.Iff
use mathlib.Core.Logic.{◌↔◌, inl, inr, ⊎_elim}
use mathlib.Core.Bool.{Bool, true}
use mathlib.Core.List.{List}
use Prim.Native.Nat.{ℕ, suc, ◌≤◌, ◌<◌}
use native.Mathlib.Omega.{arith}
use Rattle.statements.specs.Plants.{Plant}
use Rattle.statements.specs.Kept.{kept_within, stage_of}
use Rattle.statements.specs.Books.{move_at, stage_at, book_fault, rule_in, book_within}
use Rattle.statements.specs.Strategies.{InGoal, Wins, following}
use Rattle.statements.specs.Demands.{Lowest, Nearer, Below, Arrived, Onward, HasStages, IsBook, Right}
use Rattle.sets.proofs.Tests.{not_both}
use Rattle.kept.proofs.Moves.{move_lowest}
use Rattle.kept.proofs.Kept.{stage_range, shown_staged}
use Rattle.winning.proofs.Runs.{forces_same, wins_by_larger}
use Rattle.winning.proofs.Following.{Closer, Target, follows, run_few}
use Rattle.decoding.proofs.Header.{book_length, read_states, read_moves, read_goals, read_mask, read_rows_at}
use Rattle.decoding.proofs.Header.{read_total}
use Rattle.decoding.proofs.Bytes.{book_bytes_lem}
use Rattle.decoding.proofs.Accepted.{book_count_lem, book_accepted}
use Rattle.demands.proofs.Plants.{Given, some_goal, given_fits}
use Rattle.demands.proofs.Rows.{IsKept, CanLeave, lost_kept, book_wait, book_stage, one_stage, no_wait}
use Rattle.demands.proofs.Rules.{rule_iff, book_move, book_into}
use Rattle.demands.proofs.Winners.{Within, guides, winners, waits}
use Rattle.demands.proofs.Staying.{leave_iff, stages_are}
use Rattle.demands.proofs.Words.{lowest_as, never_leaves, plain_words, leave_words, onward_words}
use Rattle.demands.proofs.Words.{plain_target, staged_target}
use Rattle.demands.proofs.Same.{one_book}
use Rattle.demands.proofs.Picks.{good_safe, good_iff, exit_iff, onward_iff, listed_lowest, picks_serve}

module _ {p : Plant} {mask : ℕ} {within : ℕ → Bool} (given : Given p mask within) where
  -- the calls accept it
  pub accepted : book_fault (book_within p mask within) ≡ 0
  unfolding book_within
  accepted = book_accepted p mask (kept_within p mask within) (given_fits given)

  -- the book's move is the lowest into closer states
  book_lowest :
      (x i : ℕ) → i < p.goals → (h : IsKept p mask within x) →
      let b = book_within p mask within in
      Lowest p mask x (Closer (IsKept p mask within) (CanLeave p mask within) b x i) (move_at b x i)
  book_lowest x i hi h =
      let b = book_within p mask within in
      record {
        meets = (rule_iff given x h i hi (move_at b x i)).0 (book_into given x h i hi);
        none_lower = λ v l m.
            not_both ((rule_iff given x h i hi v).1 m)
            (move_lowest p mask (rule_in p b x i) x v (rw (book_move given x h i hi) at l));
      }

  -- where the plant settles its rows are what request (ix) says of them
  stages_right : p.settles ≡ true → HasStages p mask (Within within) (book_within p mask within)
  unfolding stage_of
  stages_right e =
      let b = book_within p mask within in
      record {
        range = λ x hx w.
            let h = (winners given x).1 w in
            let r = stage_range p mask within (some_goal given) x h e in
            rw (book_stage given x h, shown_staged p mask within (some_goal given) e x) r;
        stage = λ x k hx l. (
          λ q. (stages_are given e x k hx l).0 ((winners given x).1 q.0, q.1),
          λ s. let r = (stages_are given e x k hx l).1 s in ((winners given x).0 r.0, r.1),
        );
        exit_wait = λ x i hx hi w q.
            let h = (winners given x).1 w in
            (no_wait given x h i hi).1 (inr ((leave_iff given x h).1 q));
        exit_move = λ x i hx hi w q.
            let h = (winners given x).1 w in
            lowest_as p mask x (move_at b x i) (Closer (IsKept p mask within) (CanLeave p mask within) b x i)
            (Below p mask (Within within) b (stage_at b x)) (leave_words given x ((leave_iff given x h).1 q) i)
            (book_lowest x i hi h);
        wait = λ x i n hx hi w.
            let h = (winners given x).1 w in
            Iff.trans (waits given x i n h hi)
            (forces_same p mask (λ y. IsKept p mask within y × (stage_at b y ≤ stage_at b x))
            (Below p mask (Within within) b (suc (stage_at b x)))
            (λ y. (λ q. ((winners given y).0 q.0, omega (arith, q.1)), λ q. ((winners given y).1 q.0, omega (arith, q.1))))
            x (Target p (IsKept p mask within) (CanLeave p mask within) b x i) (Arrived p mask (Within within) b x i)
            (staged_target given x i) n);
        move = λ x i hx hi w q.
            let h = (winners given x).1 w in
            lowest_as p mask x (move_at b x i) (Closer (IsKept p mask within) (CanLeave p mask within) b x i)
            (Onward p mask (Within within) b x i) (onward_words given x (λ l. q ((leave_iff given x h).0 l)) i)
            (book_lowest x i hi h);
      }

  -- the book is what document 01 says of it
  pub is_book : IsBook p mask (Within within) (book_within p mask within)
  unfolding book_within
  is_book =
      let kept = kept_within p mask within in
      let fits = given_fits given in
      record {
        bytes = book_bytes_lem p mask kept fits;
        size = book_length p mask kept;
        states = read_states p mask kept;
        moves = read_moves p mask kept;
        goals = read_goals p mask kept;
        count = book_count_lem p mask kept fits;
        mask_is = read_mask p mask kept;
        rows_at = read_rows_at p mask kept;
        total = read_total p mask kept ∙ sym (book_length p mask kept);
        kept = λ x hx. Iff.trans (lost_kept given x hx) (winners given x);
        wait = λ e x i n hx hi w.
            let b = book_within p mask within in
            let h = (winners given x).1 w in
            Iff.trans (waits given x i n h hi)
            (forces_same p mask (λ y. IsKept p mask within y × (stage_at b y ≤ stage_at b x)) (Wins p mask (Within within))
            (λ y. (
              λ q. (winners given y).0 q.0,
              λ q. ((winners given y).1 q, omega (arith, one_stage given e x, one_stage given e y)),
            ))
            x (Target p (IsKept p mask within) (CanLeave p mask within) b x i) (InGoal p i)
            (plain_target given x e i) n);
        move = λ e x i hx hi w.
            let b = book_within p mask within in
            let h = (winners given x).1 w in
            lowest_as p mask x (move_at b x i) (Closer (IsKept p mask within) (CanLeave p mask within) b x i)
            (Nearer p mask (Within within) b x i) (plain_words given x e h i) (book_lowest x i hi h);
        one_stage = one_stage given;
        has_stages = stages_right;
      }

  -- and no other list of bytes is
  pub no_other : (other : List ℕ) → IsBook p mask (Within within) other → other ≡ book_within p mask within
  no_other other is_other =
      one_book p mask (Within within) given.below other (book_within p mask within) is_other is_book
      given.plant.sizes.states_least

  -- so that being that book is being those bytes
  pub book_iff : (b : List ℕ) → IsBook p mask (Within within) b ↔ (b ≡ book_within p mask within)
  book_iff b = (no_other b, λ e. rw e is_book)

  -- what demand 2 and requests (i) and (v) say of the book
  pub right : Right p mask (Within within) (book_within p mask within)
  right =
      record {
        is_book = is_book;
        no_other = no_other;
        accepted = accepted;
        short = λ x i hx hi w.
            let h = (winners given x).1 w in
            rw (book_wait given x i h hi) ((given_fits given).waits x i h hi);
        served = λ e x i hx hi w.
            let h = (winners given x).1 w in
            Iff.trans (no_wait given x h i hi) (
              λ t. ⊎_elim (λ g. g) (λ l. absurd (never_leaves given x e h l)) t,
              λ g. inl g,
            );
        exit_served = λ e x i hx hi w.
            let h = (winners given x).1 w in
            Iff.trans (no_wait given x h i hi) (
              λ t. ⊎_elim (λ g. inl g) (λ l. inr ((leave_iff given x h).0 l)) t,
              λ t. ⊎_elim (λ g. inl g) (λ q. inr ((leave_iff given x h).1 q)) t,
            );
        follows = λ x goal hx hg e.
            wins_by_larger p mask (IsKept p mask within) (Wins p mask (Within within)) (λ y. (winners given y).0) x
            (following (book_within p mask within) goal)
            (follows (guides given) x goal ((lost_kept given x hx).0 e) hg);
        few = λ e x goal hx hg k. run_few (guides given) x goal ((lost_kept given x hx).0 k) hg e;
        safe = good_safe given;
        set = good_iff given;
        exit_set = λ e. exit_iff given;
        stage_set = λ e. onward_iff given;
        listed = listed_lowest given;
        picks = picks_serve given;
      }
