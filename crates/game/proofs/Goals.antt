-- A game goal by goal: what a goal's turn leaves of the set, and which goals are known to be forced from each node of
-- it: those of the last turns, as many as have struck nothing out in a row. Assumes nothing.
use mathlib.Core.Path.{◌≡◌, refl, sym, ap, ◌∙◌, subst}
use mathlib.Core.Logic.{◌⊎◌, inl, inr, ⊎_elim}
use mathlib.Core.Bool.{Bool, true, false, not}
use mathlib.Core.List.{List}
use Prim.Native.Nat.{ℕ, ◌+◌, ◌-◌, ◌*◌, ◌≤◌, ◌<◌}
use native.Mathlib.Omega.{arith}
use borrow.Author.Tests.{ltb-true, ltb-false, eqb-true}
use lib.Dec.{eqb, ltb}
use lib.ListN.{length, get_or, take, drop}
use lib.Seq.{get_or-take, get_or-drop, drop-drop}
use Rattle.statements.specs.Sets.{numbers, pick, filter}
use Rattle.sets.proofs.Tests.{same_number}
use Rattle.sets.proofs.Iterate.{sifted_longer, sifted_as_long}
use Rattle.game.specs.Game.{Can, attracted, attracted_all, steps_to}
use Rattle.game.specs.Packed.{labels_in, goal_of, over_at, can_in}
use Rattle.game.specs.Cuts.{waits_all}
use Rattle.game.specs.Draining.{drained, GoesOn}
use Rattle.game.specs.Playing.{Ready, Reached, SoughtIn, Rest}
use Rattle.game.proofs.Counts.{lt_or_le}
use Rattle.game.proofs.Attractors.{Sub}
use Rattle.game.proofs.Drained.{Rises, Reduced, goal_reduced, none_reduced}
use Rattle.game.proofs.Playing.{stays_reached, same_forced, round_next}
use Rattle.game.proofs.Plays.{MarkedIn, RoundIn, rises, nothing, cut_is, waits_on}

-- goal i had one of so many turns before that of goal `at`
abbrev Recent : ℕ → ℕ → ℕ → ℕ → Type 0
Recent goals at turns i = ((i < at) × (at ≤ i + turns)) ⊎ ((at ≤ i) × (at + goals ≤ i + turns))

-- one turn more
recent_more : (goals at turns i : ℕ) → i < goals → at < goals
    → Recent goals (pick (ltb (at + 1) goals) (at + 1) 0) (turns + 1) i → (i ≡ at) ⊎ Recent goals at turns i
recent_more goals at turns i h l = after (ltb (at + 1) goals) refl
  where
    after : (b : Bool) → ltb (at + 1) goals ≡ b → Recent goals (pick b (at + 1) 0) (turns + 1) i
        → (i ≡ at) ⊎ Recent goals at turns i
    after true e (inl r) =
        ⊎_elim (λ q. inl q) (λ d. inr (inl (omega (arith, r, d), omega (arith, r)))) (same_number i at)
    after true e (inr r) = inr (inr (omega (arith, r), omega (arith, r)))
    after false e (inl r) = absurd (omega (arith, r))
    after false e (inr r) =
        let last = ltb-false (at + 1) goals e in
        ⊎_elim (λ q. inl q) (λ d. inr (inl (omega (arith, last, d), omega (arith, last, r)))) (same_number i at)

-- the next goal is one of the goals
after_low : (goals at : ℕ) → at < goals → pick (ltb (at + 1) goals) (at + 1) 0 < goals
after_low goals at l = after (ltb (at + 1) goals) refl
  where
    after : (b : Bool) → ltb (at + 1) goals ≡ b → pick b (at + 1) 0 < goals
    after true e = ltb-true (at + 1) goals e
    after false e = omega arith

-- a turn ends: fewer nodes are left, or one more turn has struck nothing out
pub turn_less : (kept left turns : ℕ) → left ≤ kept → turns < 8
    → left * 9 + (8 - pick (ltb left kept) 0 (turns + 1)) < kept * 9 + (8 - turns)
turn_less kept left turns l h = after (ltb left kept) refl
  where
    after : (b : Bool) → ltb left kept ≡ b → left * 9 + (8 - pick b 0 (turns + 1)) < kept * 9 + (8 - turns)
    after true e = omega (arith, ltb-true left kept e)
    after false e = omega (arith, ltb-false left kept e)

-- the same from a place on, so from a later one on
pub rest_from : {a b : ℕ} {old new : List ℕ} → a ≤ b → Rest a old new → Rest b old new
rest_from {a} {b} {old} {new} l r =
    let at : a + (b - a) ≡ b = omega arith in
    record {
      long = r.long;
      stays =
          subst (λ (m : ℕ). drop m new ≡ drop m old) at
          (sym (drop-drop (b - a) a new) ∙ (ap (drop (b - a)) r.stays ∙ drop-drop (b - a) a old));
    }

-- a game with fewer goals
pub ready_fewer : {graph : List ℕ} {nodes groups positions goals : ℕ} (k : ℕ) → 0 < k → k ≤ goals
    → Ready graph nodes groups positions goals → Ready graph nodes groups positions k
ready_fewer k some l r =
    record {
      fits = r.fits;
      some_goal = some;
      few_goals = omega (arith, r.few_goals);
      index = r.index;
      full = r.full;
    }

module _ (graph : List ℕ) (nodes groups positions goals : ℕ) where
  abbrev can : Can
  can = can_in graph nodes groups positions

  abbrev done : ℕ → Bool
  done = over_at (labels_in graph nodes)

  abbrev goal : ℕ → ℕ → Bool
  goal = goal_of (labels_in graph nodes)

  -- the goals of the last turns are reached within the set, and forced from each node of it
  pub record Quiet (set last waits : List ℕ) (at turns : ℕ) : Type 0 where
    pub low : at < goals
    pub few : turns ≤ goals
    pub reached : (i : ℕ) → i < goals → Recent goals at turns i → Reached can done goal nodes set i last waits
    pub forced : (i : ℕ) → i < goals → Recent goals at turns i → Sub set (attracted can done (goal i) set)

  -- no turn yet
  pub quiet_none : (set last waits : List ℕ) (at : ℕ) → at < goals → Quiet set last waits at 0
  quiet_none set last waits at l =
      record {
        low = l;
        few = omega arith;
        reached = λ i h r. absurd (none i h r);
        forced = λ i h r. absurd (none i h r);
      }
    where
      none : (i : ℕ) → i < goals → Recent goals at 0 i → ⊥
      none i h (inl r) = omega (arith, r)
      none i h (inr r) = omega (arith, r)

  -- as many turns as there are goals
  pub quiet_all : {set last waits : List ℕ} {at turns : ℕ} → Quiet set last waits at turns → goals ≤ turns
      → ((i : ℕ) → i < goals → Reached can done goal nodes set i last waits)
      × ((i : ℕ) → i < goals → Sub set (attracted can done (goal i) set))
  quiet_all {at} {turns} q l = (λ i h. q.reached i h (all i h), λ i h. q.forced i h (all i h))
    where
      all : (i : ℕ) → i < goals → Recent goals at turns i
      all i h = ⊎_elim (λ a. inl (a, omega arith)) (λ a. inr (a, omega arith)) (lt_or_le i at)

  -- one turn
  module _ (ready : Ready graph nodes groups positions goals) (start set last waits last' waits' : List ℕ)
      (at turns : ℕ) (r : RoundIn graph nodes groups positions goals start set last waits)
      (q : Quiet set last waits at turns)
      (k : SoughtIn graph nodes groups positions set at (at + 1) last waits last' waits') where
    -- its goal's column
    abbrev column : List ℕ
    column = take (at * nodes + nodes - at * nodes) (drop (at * nodes) waits')

    own : Reached can done goal nodes set at last' waits'
    own = k.reached at (omega arith) (omega arith) (r.older at q.low)

    columns : (i x : ℕ) → i < 1 → x < nodes → get_or column (i * nodes + x) 0 ≡ steps_to can done (goal at) set x
    columns i x hi hx =
        let zero_is : i ≡ 0 = omega arith in
        let place : 0 * nodes + x ≡ x = omega arith in
        ap (λ (j : ℕ). get_or column (j * nodes + x) 0) zero_is
        ∙ (ap (λ (j : ℕ). get_or column j 0) place
        ∙ (get_or-take (at * nodes + nodes - at * nodes) (drop (at * nodes) waits') x 0 (omega arith)
        ∙ (get_or-drop (at * nodes) waits' x 0 ∙ own.column x hx)))

    -- a node with a wait goes on within the set
    pub turn_on : (member live dead : List ℕ) → MarkedIn graph nodes groups positions goals set member live dead
        → GoesOn (waits_all column nodes 1) (labels_in graph nodes) set live
    turn_on =
        waits_on graph nodes groups positions goals ready set r.sifted (λ i. goal at) 1 (omega arith) column columns

    -- the nodes with a wait that go on are left, or all where there are as many targets as before
    module _ (anew : Bool) (test : anew ≡ not (eqb (get_or last' at 0) (get_or last at 0))) (left : List ℕ)
        (cut : left ≡ pick anew (drained can done (filter (waits_all column nodes 1) set)) set) where
      reduced : Reduced can done goal nodes goals at (at + 1) set left
      reduced =
          subst (Reduced can done goal nodes goals at (at + 1) set)
          (sym (cut
          ∙ (ap (λ (b : Bool). pick b (drained can done (filter (waits_all column nodes 1) set)) set) test
          ∙ ap (λ (ys : List ℕ). pick (not (eqb (get_or last' at 0) (get_or last at 0))) (drained can done ys) set)
          (cut_is graph nodes groups positions goals ready set r.sifted (λ i. goal at) 1 (omega arith) column
          columns))))
          (both (eqb (get_or last' at 0) (get_or last at 0)) refl)
        where
          rise : Rises can
          rise = rises graph nodes groups positions goals ready

          both : (b : Bool) → eqb (get_or last' at 0) (get_or last at 0) ≡ b
              → Reduced can done goal nodes goals at (at + 1) set
              (pick (not b) (drained can done (attracted_all 1 can done (λ i. goal at) set)) set)
          both false e = goal_reduced can done goal nodes goals rise set r.sifted at q.low
          both true e =
              none_reduced can done goal nodes goals rise set r.sifted at (at + 1)
              (λ i a b.
              let same : at ≡ i = omega arith in
              subst (λ (j : ℕ). Sub set (attracted can done (goal j) set)) same
              (same_forced can done goal nodes ready.fits.few_nodes set r.sifted rise
              (nothing graph nodes groups positions goals ready) at last waits
              (sym (eqb-true (get_or last' at 0) (get_or last at 0) e) ∙ own.targets) (r.older at q.low)))

      pub turn_round : RoundIn graph nodes groups positions goals start left last' waits'
      turn_round = round_next can done goal nodes goals start set left last waits last' waits' at (at + 1) r k reduced

      -- no more than before
      pub turn_few : length left ≤ length set
      turn_few = sifted_longer (numbers nodes 0) left set reduced.sifted r.sifted reduced.leaves.within

      -- as many: one more turn
      module _ (less : turns < goals) (still : length set ≤ length left) where
        same_set : left ≡ set
        same_set =
            sifted_as_long (numbers nodes 0) left set reduced.sifted r.sifted reduced.leaves.within
            (omega (arith, turn_few))

        quiet_more : Quiet set last' waits' (pick (ltb (at + 1) goals) (at + 1) 0) (turns + 1)
        quiet_more =
            record {
              low = after_low goals at q.low;
              few = omega arith;
              reached = λ i h n.
                  ⊎_elim
                  (λ e. subst (λ (j : ℕ). Reached can done goal nodes set j last' waits') (sym e) own)
                  (λ o. earlier i h o (same_number i at))
                  (recent_more goals at turns i h q.low n);
              forced = λ i h n.
                  ⊎_elim
                  (λ e x m.
                  rw e (reduced.forced at (omega arith) (omega arith) x (rw same_set m)))
                  (λ o. q.forced i h o)
                  (recent_more goals at turns i h q.low n);
            }
          where
            earlier : (i : ℕ) → i < goals → Recent goals at turns i → (i ≡ at) ⊎ (i ≡ at → ⊥)
                → Reached can done goal nodes set i last' waits'
            earlier i h o (inl e) = subst (λ (j : ℕ). Reached can done goal nodes set j last' waits') (sym e) own
            earlier i h o (inr d) =
                stays_reached can done goal nodes
                (k.stays i (⊎_elim (λ a. inl a) (λ a. inr (omega (arith, d))) (lt_or_le i at))) set (q.reached i h o)

      -- the turn's end
      pub turn_quiet : {kept number next quiet : ℕ} → turns < goals → length set ≡ kept → number ≡ length left
          → next ≡ pick (ltb (at + 1) goals) (at + 1) 0 → quiet ≡ pick (ltb number kept) 0 (turns + 1)
          → Quiet left last' waits' next quiet
      turn_quiet less ek en ex eq = rw (ex, eq, en, ← ek) (after (ltb (length left) (length set)) refl)
        where
          after : (b : Bool) → ltb (length left) (length set) ≡ b
              → Quiet left last' waits' (pick (ltb (at + 1) goals) (at + 1) 0) (pick b 0 (turns + 1))
          after true e = quiet_none left last' waits' _ (after_low goals at q.low)
          after false e =
              let still = ltb-false (length left) (length set) e in
              subst
              (λ (ys : List ℕ). Quiet ys last' waits' (pick (ltb (at + 1) goals) (at + 1) 0) (turns + 1))
              (sym (same_set less still)) (quiet_more less still)
