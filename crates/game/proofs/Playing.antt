-- A game turn by turn: a goal is passed over or reached, and nodes are struck out. Assumes nothing.
use mathlib.Core.Path.{◌≡◌, refl, sym, ap, ◌∙◌, subst}
use mathlib.Core.Logic.{◌⊎◌, inl, inr, ⊎_elim}
use mathlib.Core.Bool.{Bool, true, false, ◌&&◌, ◌||◌, not}
use mathlib.Core.List.{List, [], ◌∷◌}
use Prim.Native.Nat.{ℕ, suc, ◌+◌, ◌*◌, ◌≤◌, ◌<◌}
use native.Mathlib.Omega.{arith}
use native.Mathlib.Nat.{mul-le-mul_right}
use native.Mathlib.Decide.{dec_lt}
use lib.Dec.{eqb}
use lib.ListN.{length, get_or, drop, set, length-drop}
use lib.Seq.{get_or-set_same, get_or-set_other, get_or-drop}
use Rattle.statements.specs.Sets.{numbers, joined, over}
use Rattle.sets.proofs.Tests.{same_number}
use Rattle.sets.proofs.Members.{Sifted, filter_length}
use Rattle.sets.proofs.Iterate.{sifted_few}
use Rattle.sets.proofs.Pieces.{points_take, pieces_over}
use Rattle.game.specs.Game.{Can, aims, attracted, held_after, steps_to, steps_of}
use Rattle.game.specs.Playing.{Reached, Leaves, Earlier, Older, Stays, Sought}
use Rattle.game.proofs.Counts.{lt_or_le}
use Rattle.game.proofs.Attractors.{Sub}
use Rattle.game.proofs.Rounds.{steps_same, steps_none}
use Rattle.game.proofs.Drained.{Reduced}

-- no more targets than nodes
aims_few : (can : Can) (done goal : ℕ → Bool) (all : List ℕ) → length (aims can done goal all) ≤ length all
unfolding aims
aims_few can done goal all = filter_length (λ x. done x || (goal x && can all x)) all

-- a turn about to begin: its set, from which the nodes left in the end are those of the start
pub record Round (can : Can) (done : ℕ → Bool) (goal : ℕ → ℕ → Bool) (n goals : ℕ) (start set last waits : List ℕ)
    : Type 0 where
  pub sifted : Sifted (numbers n 0) set
  pub same : held_after n goals can done goal set ≡ held_after n goals can done goal start
  pub older : (i : ℕ) → i < goals → Older can done goal n set i last waits

-- nothing changes for a goal in two steps
stays_more : {n i : ℕ} {last waits last' waits' last'' waits'' : List ℕ} → Stays n i last waits last' waits'
    → Stays n i last' waits' last'' waits'' → Stays n i last waits last'' waits''
stays_more a b =
    record { column = λ x h. b.column x h ∙ a.column x h; targets = b.targets ∙ a.targets }

-- what is left of what is left
leaves_more : {can : Can} {old mid new : List ℕ} → Leaves can old mid → Leaves can mid new → Leaves can old new
leaves_more a b =
    record {
      within = λ x m. a.within x (b.within x m);
      closed = λ ys x s m h. b.closed ys x s (a.closed ys x (λ y k. b.within y (s y k)) m h) h;
    }

module _ (can : Can) (done : ℕ → Bool) (goal : ℕ → ℕ → Bool) (n : ℕ) where
  -- where nothing changes for a goal it is reached as before
  module _ {i : ℕ} {last waits last' waits' : List ℕ} (k : Stays n i last waits last' waits') where
    pub stays_reached : (set : List ℕ) → Reached can done goal n set i last waits
        → Reached can done goal n set i last' waits'
    stays_reached set r =
        record { column = λ x h. k.column x h ∙ r.column x h; targets = k.targets ∙ r.targets }

    stays_older : (set : List ℕ) → Older can done goal n set i last waits → Older can done goal n set i last' waits'
    stays_older set (inl m) = inl (k.targets ∙ m)
    stays_older set (inr o) =
        inr (record {
          old = o.old;
          sifted = o.sifted;
          leaves = o.leaves;
          reached = stays_reached o.old o.reached;
          forced = o.forced;
        })

  -- and within what is left as within the set
  older_left : {i : ℕ} {last waits : List ℕ} (set left : List ℕ) → Leaves can set left
      → Older can done goal n set i last waits → Older can done goal n left i last waits
  older_left set left l (inl m) = inl m
  older_left set left l (inr o) =
      inr (record {
        old = o.old;
        sifted = o.sifted;
        leaves = leaves_more o.leaves l;
        reached = o.reached;
        forced = λ x m. o.forced x (l.within x m);
      })

  -- no goal is reached yet
  pub sought_none : (now : List ℕ) (at : ℕ) (last waits : List ℕ)
      → Sought can done goal n now at at last waits last waits
  sought_none now at last waits =
      record {
        reached = λ i a b o. absurd (omega arith);
        stays = λ i o. record { column = λ x h. refl; targets = refl };
      }

  module _ (small : n ≤ 1024) (now : List ℕ) (s : Sifted (numbers n 0) now)
      (more : (ys zs : List ℕ) (x : ℕ) → Sub ys zs → can ys x ≡ true → can zs x ≡ true)
      (nothing : (x : ℕ) → can [] x ≡ false) where
    -- as many targets as within an earlier set: the waits are the same
    same_steps : (i : ℕ) (last waits : List ℕ) (o : Earlier can done goal n now i last waits)
        → get_or last i 0 ≡ length (aims can done (goal i) now) → (x : ℕ)
        → steps_to can done (goal i) now x ≡ steps_to can done (goal i) o.old x
    same_steps i last waits o e x =
        steps_same can done goal n o.old now o.sifted s o.leaves more nothing i (sym e ∙ o.reached.targets) x

    -- a goal that was never reached has another number of targets
    never : (i : ℕ) (last : List ℕ) → get_or last i 0 ≡ length (aims can done (goal i) now) → get_or last i 0 ≡ 65535 → ⊥
    never i last e m = omega (arith, aims_few can done (goal i) now, sifted_few n now s, e, m)

    same_reach : (i : ℕ) (last waits : List ℕ) → get_or last i 0 ≡ length (aims can done (goal i) now)
        → Older can done goal n now i last waits → Reached can done goal n now i last waits
    same_reach i last waits e (inl m) = absurd (never i last e m)
    same_reach i last waits e (inr o) =
        record {
          column = λ x h. o.reached.column x h ∙ sym (same_steps i last waits o e x);
          targets = e;
        }

    -- and the goal is forced from each node
    pub same_forced : (i : ℕ) (last waits : List ℕ) → get_or last i 0 ≡ length (aims can done (goal i) now)
        → Older can done goal n now i last waits → Sub now (attracted can done (goal i) now)
    same_forced i last waits e (inl m) x h = absurd (never i last e m)
    same_forced i last waits e (inr o) x h =
        let old = o.old in
        steps_none can done goal (goal i) now (omega (arith, sifted_few n now s)) x
        ∙ (ap (λ (v : ℕ). not (eqb v 65535)) (same_steps i last waits o e x)
        ∙ (sym (steps_none can done goal (goal i) old (omega (arith, sifted_few n old o.sifted)) x) ∙ o.forced x h))

    -- one goal
    module _ (first at : ℕ) (last₀ waits₀ last waits : List ℕ)
        (k : Sought can done goal n now first at last₀ waits₀ last waits) (low : first ≤ at) where
      -- one that has as many targets as before is passed over
      pub sought_skip : get_or last at 0 ≡ length (aims can done (goal at) now)
          → Sought can done goal n now first (at + 1) last₀ waits₀ last waits
      sought_skip e =
          record {
            reached = λ i a b o.
                ⊎_elim
                (λ q.
                subst (λ (j : ℕ). Reached can done goal n now j last waits) (sym q)
                (same_reach at last waits e
                (stays_older (k.stays at (inr (omega arith))) now
                (subst (λ (j : ℕ). Older can done goal n now j last₀ waits₀) q o))))
                (λ d. k.reached i a (omega (arith, d)) o)
                (same_number i at);
            stays = λ i o. k.stays i (⊎_elim (λ l. inl l) (λ l. inr (omega arith)) o);
          }

      -- any other is reached
      module _ (last' waits' : List ℕ) (tail : ℕ) (room : at < length last) (el : last' ≡ set last at tail)
          (count : tail ≡ length (aims can done (goal at) now))
          (column : (x : ℕ) → x < n → get_or waits' (at * n + x) 0 ≡ steps_to can done (goal at) now x)
          (others : (m : ℕ) → (m < at * n) ⊎ (at * n + n ≤ m) → get_or waits' m 0 ≡ get_or waits m 0) where
        apart : (i x : ℕ) → (i ≡ at → ⊥) → x < n → (i * n + x < at * n) ⊎ (at * n + n ≤ i * n + x)
        apart i x d h =
            elim (dec_lt i at) [
              | yes l ↦ let m = mul-le-mul_right {m = suc i} {n = at} n l in inl (omega arith)
              | no l ↦ let m = mul-le-mul_right {m = suc at} {n = i} n (omega (arith, d)) in inr (omega arith)
            ]

        other_stays : (i : ℕ) → (i ≡ at → ⊥) → Stays n i last waits last' waits'
        other_stays i d =
            record {
              column = λ x h. others (i * n + x) (apart i x d h);
              targets = ap (λ (ys : List ℕ). get_or ys i 0) el ∙ get_or-set_other last at i tail 0 d;
            }

        own_reached : Reached can done goal n now at last' waits'
        own_reached =
            record {
              column = column;
              targets = ap (λ (ys : List ℕ). get_or ys at 0) el ∙ (get_or-set_same last at tail 0 room ∙ count);
            }

        pub sought_reach : Sought can done goal n now first (at + 1) last₀ waits₀ last' waits'
        sought_reach =
            record {
              reached = λ i a b o.
                  ⊎_elim
                  (λ q. subst (λ (j : ℕ). Reached can done goal n now j last' waits') (sym q) own_reached)
                  (λ d. stays_reached (other_stays i d) now (k.reached i a (omega (arith, d)) o))
                  (same_number i at);
              stays = λ i o.
                  ⊎_elim
                  (λ l. stays_more (k.stays i (inl l)) (other_stays i (λ q. omega arith)))
                  (λ l. stays_more (k.stays i (inr (omega arith))) (other_stays i (λ q. omega arith)))
                  o;
            }

  module _ (goals : ℕ) (start : List ℕ) where
    -- before the first turn nothing is reached
    pub round_begin : (last waits : List ℕ) → Sifted (numbers n 0) start
        → ((i : ℕ) → i < goals → get_or last i 0 ≡ 65535) → Round can done goal n goals start start last waits
    round_begin last waits s marks = record { sifted = s; same = refl; older = λ i h. inl (marks i h) }

    -- some goals are reached: what is left of the set is that of the next turn
    pub round_next : (now left last waits last' waits' : List ℕ) (first end : ℕ)
        → Round can done goal n goals start now last waits
        → Sought can done goal n now first end last waits last' waits'
        → Reduced can done goal n goals first end now left → Round can done goal n goals start left last' waits'
    round_next now left last waits last' waits' first end r k reduced =
        record {
          sifted = reduced.sifted;
          same = reduced.held ∙ r.same;
          older = λ i h. ⊎_elim (λ l. other i h (inl l)) (λ l. ⊎_elim (λ m. own i h l m) (λ m. other i h (inr m))
              (lt_or_le i end)) (lt_or_le i first);
        }
      where
        own : (i : ℕ) → i < goals → first ≤ i → i < end → Older can done goal n left i last' waits'
        own i h a b =
            inr (record {
              old = now;
              sifted = r.sifted;
              leaves = reduced.leaves;
              reached = k.reached i a b (r.older i h);
              forced = reduced.forced i a b;
            })

        other : (i : ℕ) → i < goals → (i < first) ⊎ (end ≤ i) → Older can done goal n left i last' waits'
        other i h o = older_left now left reduced.leaves (stays_older (k.stays i o) now (r.older i h))

-- the columns of all goals, one after the other
pub columns_over : (can : Can) (done : ℕ → Bool) (goal : ℕ → ℕ → Bool) (n goals : ℕ) (all old new : List ℕ)
    → ((i x : ℕ) → i < goals → x < n → get_or new (i * n + x) 0 ≡ steps_to can done (goal i) all x)
    → goals * n ≤ length new → drop (goals * n) new ≡ drop (goals * n) old
    → new ≡ over (steps_of n goals can done goal all) old
unfolding steps_of
columns_over can done goal n goals all old new columns room rest =
    pieces_over (λ i. joined n 0 (λ x. steps_to can done (goal i) all x ∷ [])) n goals old new (goals * n) refl room
    (λ i h.
    let most = mul-le-mul_right {m = suc i} {n = goals} n h in
    points_take (steps_to can done (goal i) all) n (drop (i * n) new)
    (omega (arith, length-drop (i * n) new))
    (λ x l. get_or-drop (i * n) new x 0 ∙ columns i x h l))
    rest
