-- Passing goals in turn, turn by turn: the loop is at the goal so many places on, and what is left to search says how
-- many are passed in all. Assumes nothing.
use mathlib.Core.Path.{◌≡◌, sym, ap, ap₂, ◌∙◌}
use mathlib.Core.Bool.{Bool, true, false, not}
use mathlib.Core.List.{List}
use Prim.Native.Nat.{ℕ, suc, ◌+◌, ◌-◌, ◌%◌, ◌≤◌, ◌<◌}
use native.Mathlib.Nat.{add_assoc, mod-add-mod, sub-zero}
use native.Mathlib.Numerals.{add-one}
use native.Mathlib.Omega.{arith}
use lib.Dec.{eqb}
use borrow.Author.Tests.{eq-eqb, ne_eqb}
use Rattle.statements.specs.Sets.{first}
use Rattle.statements.specs.Books.{book_goals, wait_at, goal_after, served, passes, arrive}
use Rattle.sets.proofs.First.{first_yes, first_no, first_none}
use Rattle.winning.proofs.Goals.{after_on, after_round, after_below, Stops}

-- the goal after the last is the first, and after another the next
pub next_first : (n i : ℕ) → i + 1 ≡ n → goal_after n i 1 ≡ 0
next_first n i e = omega (arith, after_round n i 1 (omega arith) (omega arith))

pub next_on : (n i : ℕ) → i < n → (i + 1 ≡ n → ⊥) → goal_after n i 1 ≡ i + 1
next_on n i h e = after_on n i 1 (omega arith)

-- the next in turn is one place further on
next_after : (n i k : ℕ) → goal_after n (goal_after n i k) 1 ≡ goal_after n i (k + 1)
unfolding goal_after
next_after n i k = mod-add-mod (i + k) n 1 ∙ ap (λ (m : ℕ). m % n) (add_assoc i k 1)

-- in a book b of n goals, for state x and the sought goal i, the loop has passed k goals and is at goal at
pub record Passing (b : List ℕ) (x i n at k : ℕ) : Type 0 where
  pub goals : n ≡ book_goals b
  pub sought : i < n
  pub few : k ≤ n
  pub here : at ≡ goal_after n i k
  pub rest : passes b x i ≡ first (n - k) k (Stops b x i)

-- it begins at the sought goal
pub pass_start : (b : List ℕ) (x i n : ℕ) → n ≡ book_goals b → i < n → Passing b x i n i 0
unfolding passes
pass_start b x i n e h =
    record {
      goals = e;
      sought = h;
      few = omega arith;
      here = omega (arith, after_on n i 0 (omega arith));
      rest = rw (e, sub-zero);
    }

module _ {b : List ℕ} {x i n at k : ℕ} (p : Passing b x i n at k) where
  -- it is at a goal
  pub pass_below : at < n
  pass_below = rw p.here (after_below n i k p.sought)

  -- if k are passed in all it is the goal arrived at
  at_arrived : passes b x i ≡ k → at ≡ arrive b x i
  unfolding arrive
  at_arrived e = p.here ∙ ap₂ (λ (n k : ℕ). goal_after n i k) p.goals (sym e)

  -- whether the search stops there
  stops_here : (t : Bool) → eqb (wait_at b x at) 0 ≡ t → Stops b x i k ≡ not t
  unfolding served
  stops_here t e =
      ap (λ (j : ℕ). not (eqb (wait_at b x j) 0)) (ap (λ (n : ℕ). goal_after n i k) (sym p.goals) ∙ sym p.here)
      ∙ ap not e

  -- what is left to search begins there
  rest_turn : k < n → passes b x i ≡ first (suc (n - (k + 1))) k (Stops b x i)
  rest_turn h =
      let size : n - k ≡ suc (n - (k + 1)) = omega arith in
      rw size at p.rest

  -- the goal is not served: it is the one arrived at
  pub pass_stop : k < n → (wait_at b x at ≡ 0 → ⊥) → at ≡ arrive b x i
  pass_stop h w =
      at_arrived (rest_turn h ∙ first_yes (n - (k + 1)) k (Stops b x i) (stops_here false (ne_eqb _ 0 w)))

  -- it is served: it is passed
  pub pass_on : k < n → wait_at b x at ≡ 0 → (next : ℕ) → next ≡ goal_after n at 1 → Passing b x i n next (k + 1)
  pass_on h w next e =
      record {
        goals = p.goals;
        sought = p.sought;
        few = omega arith;
        here = e ∙ ap (λ (j : ℕ). goal_after n j 1) p.here ∙ next_after n i k;
        rest =
            rest_turn h
            ∙ first_no (n - (k + 1)) k (Stops b x i) (stops_here true (eq-eqb _ 0 w))
            ∙ ap (λ (j : ℕ). first (n - (k + 1)) j (Stops b x i)) (sym (add-one k));
      }

  -- all are passed
  pub pass_end : n ≤ k → at ≡ arrive b x i
  pass_end h =
      let none : n - k ≡ 0 = omega arith in
      at_arrived (rw none at p.rest ∙ first_none k (Stops b x i))
