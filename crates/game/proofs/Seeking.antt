-- Goal by goal within one set: what is known before each, and how a goal is passed over or reached. Assumes nothing.
use mathlib.Core.Path.{◌≡◌, refl, sym, ap, subst, ◌∙◌}
use mathlib.Core.Logic.{◌⊎◌, inl, inr}
use mathlib.Core.Bool.{Bool, ◌&&◌}
use mathlib.Core.List.{List, [], ◌∷◌, ◌++◌}
use Prim.Native.Nat.{ℕ, suc, ◌+◌, ◌-◌, ◌*◌, ◌≤◌, ◌<◌}
use native.Mathlib.Omega.{arith}
use native.Mathlib.Nat.{mul-le-mul_right, zero-add}
use lib.Dec.{ltb}
use lib.ListN.{length, get_or, take, drop, set, replicate, length-append, length-drop, length-set, get_or-append}
use lib.Seq.{length-take-le, get_or-take, get_or-drop, get_or-append-add, drop_at, drop-set-add}
use Rattle.statements.specs.Sets.{numbers, is_in}
use Rattle.sets.proofs.Members.{Sifted, sifted_sub, filter_length}
use Rattle.sets.proofs.Iterate.{sifted_few}
use Rattle.sets.proofs.Joined.{joined_length, joined_at}
use Rattle.sets.proofs.Pieces.{same_rest}
use Rattle.arrays.specs.Lists.{zeroed}
use Rattle.game.specs.Walked.{nodes, can_enter, wait_of, walked_waits}
use Rattle.game.specs.Game.{aims, steps_to}
use Rattle.game.specs.Packed.{groups_in, rev_in, starts_in, labels_in, goal_of, over_at, can_in}
use Rattle.game.proofs.Aiming.{aimed}
use Rattle.game.specs.Playing.{Ready, SoughtIn, Standing, Rest, last_eight}
use Rattle.game.proofs.Parts.{starts_nodes}
use Rattle.game.proofs.Playing.{sought_none, sought_skip, sought_reach}
use Rattle.game.proofs.Standing.{can_more, can_nothing, aimed_aims}
use Rattle.game.proofs.Reaching.{reach_steps}

-- a list with other numbers in the place of those from a place on
module _ (a n k : ℕ) (xs ys new : List ℕ) (room : a + n ≤ length xs) (few : length ys ≡ n) (ek : k ≡ n)
    (e : new ≡ take a xs ++ (ys ++ drop k (drop a xs))) where
  front : length (take a xs) ≡ a
  front = length-take-le a xs (omega arith)

  put_length : length new ≡ length xs
  put_length =
      ap length e
      ∙ omega (
        arith,
        length-append (take a xs) (ys ++ drop k (drop a xs)),
        length-append ys (drop k (drop a xs)),
        length-drop k (drop a xs),
        length-drop a xs,
        front,
      )

  -- they are there
  put_in : (x : ℕ) → x < n → get_or new (a + x) 0 ≡ get_or ys x 0
  put_in x h =
      let at : a + x ≡ length (take a xs) + x = omega (arith, front) in
      ap (λ (l : List ℕ). get_or l (a + x) 0) e
      ∙ (ap (λ (m : ℕ). get_or (take a xs ++ (ys ++ drop k (drop a xs))) m 0) at
      ∙ (get_or-append-add (take a xs) (ys ++ drop k (drop a xs)) x 0
      ∙ get_or-append ys (drop k (drop a xs)) 0 x (omega arith)))

  -- and the others stay
  put_out : (m : ℕ) → (m < a) ⊎ (a + n ≤ m) → get_or new m 0 ≡ get_or xs m 0
  put_out m (inl h) =
      ap (λ (l : List ℕ). get_or l m 0) e
      ∙ (get_or-append (take a xs) (ys ++ drop k (drop a xs)) 0 m (omega (arith, front)) ∙ get_or-take a xs m 0 h)
  put_out m (inr h) =
      let j = m - (a + n) in
      let at : m ≡ length (take a xs) + (length ys + j) = omega (arith, front) in
      let back : a + (k + j) ≡ m = omega arith in
      ap (λ (l : List ℕ). get_or l m 0) e
      ∙ (ap (λ (i : ℕ). get_or (take a xs ++ (ys ++ drop k (drop a xs))) i 0) at
      ∙ (get_or-append-add (take a xs) (ys ++ drop k (drop a xs)) (length ys + j) 0
      ∙ (get_or-append-add ys (drop k (drop a xs)) j 0
      ∙ (get_or-drop k (drop a xs) j 0 ∙ (get_or-drop a xs (k + j) 0 ∙ ap (λ (i : ℕ). get_or xs i 0) back)))))

-- the waits of a walk from the aims are a column of steps
module _ (gs starts rev member line : List ℕ) (n : ℕ) (en : nodes starts ≡ n) (new : List ℕ)
    (e : new ≡ walked_waits gs starts rev member (zeroed line (replicate n 65535))) where
  column_length : length new ≡ n
  unfolding walked_waits
  column_length =
      ap length e
      ∙ (joined_length (λ z. wait_of gs starts rev member (zeroed line (replicate n 65535)) z ∷ []) 1 (λ k. refl)
      (nodes starts) 0
      ∙ omega arith)

  column_steps : (now : List ℕ) (done goal : ℕ → Bool) → Sifted (numbers n 0) now
      → ((x : ℕ) → x < n → ltb (get_or member x 0) 1 ≡ (is_in x now && can_enter gs starts rev now x))
      → line ≡ aims (can_enter gs starts rev) done goal now
      → (x : ℕ) → x < n → get_or new x 0 ≡ steps_to (can_enter gs starts rev) done goal now x
  unfolding walked_waits
  column_steps now done goal s marks el x h =
      let wait : ℕ → ℕ = wait_of gs starts rev member (zeroed line (replicate n 65535)) in
      ap (λ (l : List ℕ). get_or l x 0) e
      ∙ (joined_at wait (nodes starts) 0 x (omega arith)
      ∙ (ap wait (zero-add x)
      ∙ rw en at (reach_steps gs starts rev member now done goal (rw en s) (λ y l. marks y (omega arith)) line el x
      (omega arith))))

-- the goals before `at` are reached, and no number after the columns is another than before
pub record Seeking (graph : List ℕ) (n groups positions first goals : ℕ) (now scratch₀ waits₀ scratch waits : List ℕ)
    (at : ℕ) : Type 0 where
  pub sought : SoughtIn graph n groups positions now first at (last_eight scratch₀) waits₀ (last_eight scratch) waits
  pub rest : Rest (goals * n) waits₀ waits
  pub begun : first ≤ at
  pub within : at ≤ goals
  pub long : length scratch ≡ length scratch₀

-- the targets of a goal in line, and where its column is
pub record Turn (n goals : ℕ) (waits : List ℕ) (at tail : ℕ) (line : List ℕ) : Type 0 where
  pub few : tail ≤ n
  pub ends : at * n + n ≤ goals * n
  pub room : at * n + n ≤ length waits
  pub size : tail ≡ length line
  pub sifted : Sifted (numbers n 0) line

-- the last 8 numbers, from a place on
last_from : (place : ℕ) (xs : List ℕ) → length xs ≡ place + 8 → last_eight xs ≡ drop place xs
unfolding last_eight
last_from place xs e =
    let at : length xs - 8 ≡ place = omega arith in
    ap (λ (a : ℕ). drop a xs) at

-- before the first goal
pub seek_none : {graph : List ℕ} {n groups positions first goals : ℕ} {now scratch waits : List ℕ} → first ≤ goals
    → Seeking graph n groups positions first goals now scratch waits scratch waits first
seek_none {graph} {n} {groups} {positions} {first} {now} {scratch} {waits} some =
    record {
      sought =
          sought_none (can_in graph n groups positions) (over_at (labels_in graph n)) (goal_of (labels_in graph n)) n now
          first (last_eight scratch) waits;
      rest = record { long = refl; stays = refl };
      begun = omega arith;
      within = some;
      long = refl;
    }

module _ {graph : List ℕ} {n groups positions goals : ℕ} {now : List ℕ} (member : List ℕ)
    (ready : Ready graph n groups positions goals) (s : Sifted (numbers n 0) now)
    (standing : Standing graph n groups positions now member) where
  -- the targets in line are those of the game
  targets_are : (i : ℕ) → aimed (labels_in graph n) member i now
      ≡ aims (can_in graph n groups positions) (over_at (labels_in graph n)) (goal_of (labels_in graph n) i) now
  unfolding can_in
  targets_are i =
      aimed_aims (groups_in graph groups) (starts_in graph n) (rev_in graph positions) (labels_in graph n) now member n i s
      standing

  -- one goal
  module _ {scratch₀ waits₀ scratch waits : List ℕ} {first at tail : ℕ}
      (k : Seeking graph n groups positions first goals now scratch₀ waits₀ scratch waits at) (low : at < goals)
      (et : tail ≡ length (aimed (labels_in graph n) member at now)) (wide : 8 ≤ length scratch₀) where
    -- where the numbers of targets begin
    abbrev place : ℕ
    place = length scratch₀ - 8

    last_was : last_eight scratch ≡ drop place scratch
    last_was = last_from place scratch (omega (arith, k.long))

    -- as many targets as in the round before
    pub seek_skip : get_or scratch (place + at) 0 ≡ tail
        → Seeking graph n groups positions first goals now scratch₀ waits₀ scratch waits (at + 1)
    unfolding can_in
    seek_skip same =
        record {
          sought =
              sought_skip (can_in graph n groups positions) (over_at (labels_in graph n)) (goal_of (labels_in graph n)) n
              ready.fits.few_nodes now s
              (can_more (groups_in graph groups) (starts_in graph n) (rev_in graph positions))
              (can_nothing (groups_in graph groups) (starts_in graph n) (rev_in graph positions))
              first at (last_eight scratch₀) waits₀ (last_eight scratch) waits k.sought k.begun
              (ap (λ (l : List ℕ). get_or l at 0) last_was
              ∙ (get_or-drop place scratch at 0 ∙ (same ∙ (et ∙ ap length (targets_are at)))));
          rest = k.rest;
          begun = omega (arith, k.begun);
          within = omega arith;
          long = k.long;
        }

    -- no more targets than nodes, which rise, and there is room for the column
    pub seek_turn : goals * n ≤ length waits₀ → {line : List ℕ} → line ≡ aimed (labels_in graph n) member at now
        → Turn n goals waits at tail line
    unfolding aimed
    seek_turn room el =
        let few : length (aimed (labels_in graph n) member at now) ≤ length now = filter_length _ now in
        let most = mul-le-mul_right {m = suc at} {n = goals} n low in
        record {
          few = omega (arith, few, sifted_few n now s, et);
          ends = omega arith;
          room = omega (arith, k.rest.long);
          size = et ∙ sym (ap length el);
          sifted = subst (Sifted (numbers n 0)) (sym el) (sifted_sub _ (numbers n 0) now s);
        }

    -- another number of them: it is noted, and the reach worked out
    pub seek_reach : (line counts new : List ℕ) {scratch' waits' : List ℕ} → goals * n ≤ length waits₀
        → line ≡ aimed (labels_in graph n) member at now → length counts ≡ place
        → new ≡ walked_waits (groups_in graph groups) (starts_in graph n) (rev_in graph positions) member
        (zeroed line (replicate n 65535))
        → scratch' ≡ counts ++ drop place (set scratch (place + at) tail)
        → waits' ≡ take (at * n) waits ++ (new ++ drop (at * n + n - at * n) (drop (at * n) waits))
        → Seeking graph n groups positions first goals now scratch₀ waits₀ scratch' waits' (at + 1)
    unfolding can_in
    seek_reach line counts new {scratch'} {waits'} room el ec en es ew =
        let gs = groups_in graph groups in
        let starts = starts_in graph n in
        let rev = rev_in graph positions in
        let done = over_at (labels_in graph n) in
        let goal = goal_of (labels_in graph n) in
        let kept = drop place (set scratch (place + at) tail) in
        let few = ready.few_goals in
        let nl = starts_nodes graph ready.fits in
        let same : length scratch' ≡ length scratch₀ =
        ap length es
        ∙ omega (
          arith,
          length-append counts kept,
          length-drop place (set scratch (place + at) tail),
          length-set scratch (place + at) tail,
          k.long,
        ) in
        let turn = seek_turn room el in
        let span : at * n + n - at * n ≡ n = omega arith in
        let long = column_length gs starts rev member line n nl new en in
        let size = put_length (at * n) n (at * n + n - at * n) waits new waits' turn.room long span ew in
        let out = put_out (at * n) n (at * n + n - at * n) waits new waits' turn.room long span ew in
        record {
          sought =
              sought_reach (can_in graph n groups positions) done goal n ready.fits.few_nodes now s
              (can_more gs starts rev) (can_nothing gs starts rev) first at (last_eight scratch₀) waits₀
              (last_eight scratch) waits k.sought k.begun (last_eight scratch') waits' tail
              (omega (arith, ap length last_was, length-drop place scratch, k.long))
              (last_from place scratch' (omega arith)
              ∙ (ap (drop place) es ∙ (drop_at counts kept place ec ∙ (drop-set-add place scratch at tail
              ∙ ap (λ (l : List ℕ). set l at tail) (sym last_was)))))
              (et ∙ ap length (targets_are at))
              (λ x h.
              put_in (at * n) n (at * n + n - at * n) waits new waits' turn.room long span ew x h
              ∙ column_steps gs starts rev member line n nl new en now done (goal at) s standing
              (el ∙ targets_are at) x h)
              out;
          rest = record {
            long = size ∙ k.rest.long;
            stays =
                same_rest (goals * n) waits waits' size (λ m h. out m (inr (omega (arith, turn.ends))))
                ∙ k.rest.stays;
          };
          begun = omega (arith, k.begun);
          within = omega arith;
          long = same;
        }

-- after the last goal
pub seek_end : {graph : List ℕ} {n groups positions first goals : ℕ} {now scratch₀ waits₀ scratch waits : List ℕ}
    {at : ℕ} → Seeking graph n groups positions first goals now scratch₀ waits₀ scratch waits at → goals ≤ at
    → SoughtIn graph n groups positions now first goals (last_eight scratch₀) waits₀ (last_eight scratch) waits
    × Rest (goals * n) waits₀ waits
seek_end {goals} {at} k h =
    let all : at ≡ goals = omega (arith, k.within) in
    (rw all at k.sought, k.rest)
