-- The turns of a packed game: what is known before one, what a round strikes out, and what the last one leaves. Assumes
-- nothing.
use mathlib.Core.Path.{◌≡◌, refl, sym, ap, ◌∙◌, subst}
use mathlib.Core.Logic.{inl, inr, ⊎_elim}
use mathlib.Core.Bool.{Bool, true, false, not}
use mathlib.Core.List.{List, []}
use Prim.Native.Nat.{ℕ, ◌+◌, ◌-◌, ◌*◌, ◌≤◌, ◌<◌}
use native.Mathlib.Omega.{arith}
use borrow.Author.Tests.{ltb-true}
use lib.ListN.{length, get_or, take, replicate, length-replicate}
use lib.Seq.{length-take-le, get_or-drop}
use Rattle.statements.specs.Sets.{numbers, is_in, filter, over}
use Rattle.sets.proofs.Members.{Sifted, filter_length, filter_in}
use Rattle.sets.proofs.Iterate.{sifted_few, sifted_below}
use Rattle.sets.proofs.Over.{over_length, over_back}
use Rattle.arrays.specs.Lists.{fitting}
use Rattle.arrays.proofs.Guards.{fitting_yes}
use Rattle.game.specs.Game.{Can, attracted, attracted_all, held_after, steps_to}
use Rattle.game.specs.Packed.{groups_in, rev_in, starts_in, labels_in, goal_of, over_at, can_in, held_in, waits_in}
use Rattle.game.specs.Marks.{Marked, without}
use Rattle.game.specs.Cuts.{waits_all}
use Rattle.game.specs.Draining.{GoesOn}
use Rattle.game.specs.Playing.{Ready, Fresh, Played, Reached, SoughtIn, Standing, Rest, last_eight}
use Rattle.game.proofs.Attractors.{Sub}
use Rattle.game.proofs.Parts.{groups_length, starts_nodes}
use Rattle.game.proofs.Rounds.{all_holds, cut_round}
use Rattle.game.proofs.Drained.{Rises, attracted_moves, Reduced, round_reduced, reduced_still, forced_held}
use Rattle.game.proofs.Playing.{Round, round_begin, round_next, columns_over}
use Rattle.game.proofs.Standing.{can_more, can_nothing, live_can, member_can, without_failing}

-- a set at the front of a list has no more nodes than there are
pub front_few : (n kept : ℕ) (list : List ℕ) → kept ≤ length list → Sifted (numbers n 0) (take kept list) → kept ≤ n
front_few n kept list h s = omega (arith, length-take-le kept list h, sifted_few n (take kept list) s)

-- and no fewer than those of it that pass a test
pub front_left : (test : ℕ → Bool) (kept left : ℕ) (list : List ℕ) → kept ≤ length list
    → left ≡ length (filter test (take kept list)) → left ≤ kept
front_left test kept left list h e = omega (arith, length-take-le kept list h, filter_length test (take kept list))

-- where the nodes that fail a test are struck out those that pass it are left
pub struck : (gs starts rev set member live dead gone left : List ℕ) (test : ℕ → Bool)
    → gone ≡ filter (λ x. not (test x)) set → left ≡ filter test set
    → Marked gs starts rev (without gone set) member live dead → Marked gs starts rev left member live dead
struck gs starts rev set member live dead gone left test eg el m =
    subst (λ (s : List ℕ). Marked gs starts rev s member live dead)
    (ap (λ (g : List ℕ). without g set) eg ∙ (without_failing test set ∙ sym el)) m

-- a list copied over the front of another
module _ (xs old new : List ℕ) (h : length xs ≤ length old) (e : new ≡ over (fitting xs old) old) where
  copied_is : new ≡ over xs old
  copied_is = e ∙ ap (λ (l : List ℕ). over l old) (fitting_yes xs old h)

  pub copied_length : length new ≡ length old
  copied_length = ap length copied_is ∙ over_length xs old h

  pub copied_front : take (length xs) new ≡ xs
  copied_front = ap (take (length xs)) copied_is ∙ over_back xs old (length xs) refl

-- no number of targets is noted in an array of marks
last_new : (groups : ℕ) (scratch : List ℕ) → Fresh (groups + 8) 65535 scratch → (i : ℕ) → i < 8
    → get_or (last_eight scratch) i 0 ≡ 65535
unfolding last_eight
last_new groups scratch f i h =
    get_or-drop (length scratch - 8) scratch i 0 ∙ f.all (length scratch - 8 + i) (omega (arith, f.long))

-- the same from a place on after two changes
pub rest_more : {place : ℕ} {old mid new : List ℕ} → Rest place old mid → Rest place mid new → Rest place old new
rest_more a b = record { long = b.long ∙ a.long; stays = b.stays ∙ a.stays }

module _ (graph : List ℕ) (nodes groups positions goals : ℕ) where
  -- the tests of the game, and the marks of a set of it
  abbrev can : Can
  can = can_in graph nodes groups positions

  abbrev done : ℕ → Bool
  done = over_at (labels_in graph nodes)

  abbrev goal : ℕ → ℕ → Bool
  goal = goal_of (labels_in graph nodes)

  abbrev pub MarkedIn : List ℕ → List ℕ → List ℕ → List ℕ → Type 0
  MarkedIn set member live dead =
      Marked (groups_in graph groups) (starts_in graph nodes) (rev_in graph positions) set member live dead

  abbrev pub RoundIn : List ℕ → List ℕ → List ℕ → List ℕ → Type 0
  RoundIn start set last waits = Round can done goal nodes goals start set last waits

  -- a turn is about to begin: its set at the front of the list, marked, and what the turns before have left
  pub record Outset (start waits₀ member live dead waits scratch queue list : List ℕ) (kept : ℕ) : Type 0 where
    pub room : kept ≤ length list
    pub marked : MarkedIn (take kept list) member live dead
    pub round : RoundIn start (take kept list) (last_eight scratch) waits
    pub rest : Rest (goals * nodes) waits₀ waits
    pub scratch_long : groups + 8 ≤ length scratch
    pub queue_long : length queue ≡ 1024
    pub list_long : length list ≡ 1024
    pub member_long : length member ≡ 1024
    pub live_long : length live ≡ 1024

  module _ (ready : Ready graph nodes groups positions goals) where
    -- the marks of a set are those of the game
    pub standing : (set member live dead : List ℕ) → MarkedIn set member live dead
        → (nodes ≤ length member) × Standing graph nodes groups positions set member
    unfolding can_in
    standing set member live dead m =
        let few = starts_nodes graph ready.fits in
        let gl = groups_length graph ready.fits in (
          omega (arith, few, m.member_long),
          λ x h.
              member_can (groups_in graph groups) (starts_in graph nodes) (rev_in graph positions)
              (λ g l. ready.full g (omega (arith, gl))) set member live dead m x (omega (arith, few)),
        )

    -- the first turn
    pub first_round : (start waits member live dead scratch list old : List ℕ) → Sifted (numbers nodes 0) start
        → MarkedIn start member live dead → length member ≡ 1024 → length live ≡ 1024
        → Fresh (groups + 8) 65535 scratch → length old ≡ 1024 → list ≡ over (fitting start old) old
        → Outset start waits member live dead waits scratch (replicate 1024 0) list (length start)
    first_round start waits member live dead scratch list old s m lm ll f lo e =
        let h : length start ≤ length old = omega (arith, sifted_few nodes start s, ready.fits.few_nodes) in
        let long = copied_length start old list h e in
        let front = copied_front start old list h e in
        record {
          room = omega arith;
          marked = subst (λ (set : List ℕ). MarkedIn set member live dead) (sym front) m;
          round =
              subst
              (λ (set : List ℕ). RoundIn start set (last_eight scratch) waits)
              (sym front)
              (round_begin can done goal nodes goals start (last_eight scratch) waits s
              (λ i l. last_new groups scratch f i (omega (arith, ready.few_goals))));
          rest = record { long = refl; stays = refl };
          scratch_long = f.long;
          queue_long = length-replicate {A = ℕ} 1024 0;
          list_long = omega arith;
          member_long = lm;
          live_long = ll;
        }

    -- more nodes to go on into, and none
    pub rises : Rises can
    unfolding can_in
    rises = can_more (groups_in graph groups) (starts_in graph nodes) (rev_in graph positions)

    pub nothing : (x : ℕ) → can [] x ≡ false
    unfolding can_in
    nothing = can_nothing (groups_in graph groups) (starts_in graph nodes) (rev_in graph positions)

    -- the columns of some goals that are reached within a set
    module _ (set : List ℕ) (sifted : Sifted (numbers nodes 0) set) (aim : ℕ → ℕ → Bool) (width : ℕ) (some : 0 < width)
        (waits : List ℕ)
        (columns : (i x : ℕ) → i < width → x < nodes → get_or waits (i * nodes + x) 0 ≡ steps_to can done (aim i) set x)
      where
        -- the nodes with a wait for each are those from which each is forced
        pub cut_is : filter (waits_all waits nodes width) set ≡ attracted_all width can done aim set
        cut_is = cut_round can done aim nodes width set sifted ready.fits.few_nodes waits columns

        -- and such a node goes on within the set
        pub waits_on : (member live dead : List ℕ) → MarkedIn set member live dead
            → GoesOn (waits_all waits nodes width) (labels_in graph nodes) set live
        unfolding can_in
        waits_on member live dead m x a w =
            let forced : is_in x (attracted_all width can done aim set) ≡ true =
            rw (← cut_is) (filter_in (waits_all waits nodes width) set x a w) in
            let low = sifted_below nodes set sifted x a in
            let gl = groups_length graph ready.fits in
            ⊎_elim
            (λ d. inl d)
            (λ h.
            inr (ltb-true 0 (get_or live x 0)
            (live_can (groups_in graph groups) (starts_in graph nodes) (rev_in graph positions)
            (λ g l. ready.full g (omega (arith, gl))) set member live dead m x
            (omega (arith, low, starts_nodes graph ready.fits))
            ∙ h)))
            (attracted_moves can done rises (aim 0) set x ((all_holds can done aim width set x forced).1 0 some))

    -- each goal is reached within a set and forced from each of its nodes: these are left in the end
    module _ (start set last waits : List ℕ) (sifted : Sifted (numbers nodes 0) set)
        (same : held_after nodes goals can done goal set ≡ held_after nodes goals can done goal start)
        (reached : (i : ℕ) → i < goals → Reached can done goal nodes set i last waits)
        (forced : (i : ℕ) → i < goals → Sub set (attracted can done (goal i) set)) where
      all_held : held_in graph nodes groups positions goals start ≡ set
      unfolding held_in
      all_held = sym same ∙ forced_held can done goal nodes goals rises set sifted forced

      -- and the waits are theirs
      pub all_played : (old : List ℕ) (kept : ℕ) → length set ≡ kept → goals * nodes ≤ length old
          → Rest (goals * nodes) old waits → Played graph nodes groups positions goals start old kept waits
      unfolding waits_in
      all_played old kept size room rest =
          record {
            number = sym (ap length all_held ∙ size);
            waits =
                subst
                (λ (all : List ℕ). waits ≡ over (waits_in graph nodes groups positions goals all) old)
                (sym all_held)
                (columns_over can done goal nodes goals set old waits (λ i x hi hx. (reached i hi).column x hx)
                (omega (arith, rest.long)) rest.stays);
          }

    -- a round reaches all goals
    module _ (start set last waits last' waits' : List ℕ) (r : RoundIn start set last waits)
        (k : SoughtIn graph nodes groups positions set 0 goals last waits last' waits') where
      round_reached : (i : ℕ) → i < goals → Reached can done goal nodes set i last' waits'
      round_reached i h = k.reached i (omega arith) h (r.older i h)

      round_cut : filter (waits_all waits' nodes goals) set ≡ attracted_all goals can done goal set
      round_cut =
          cut_is set r.sifted goal goals ready.some_goal waits' (λ i x hi hx. (round_reached i hi).column x hx)

      -- the nodes with a wait for each are left
      module _ (left : List ℕ) (cut : left ≡ filter (waits_all waits' nodes goals) set) where
        reduced : Reduced can done goal nodes goals 0 goals set left
        reduced =
            subst (Reduced can done goal nodes goals 0 goals set)
            (sym (cut ∙ round_cut)) (round_reduced can done goal nodes goals rises set r.sifted)

        -- the next round is about them
        pub next_round_lem : RoundIn start left last' waits'
        next_round_lem = round_next can done goal nodes goals start set left last waits last' waits' 0 goals r k reduced

        -- or they are as many as before, and these are left in the end
        pub last_played : length set ≤ length left → (old : List ℕ) (kept : ℕ) → length set ≡ kept
            → goals * nodes ≤ length old → Rest (goals * nodes) old waits'
            → Played graph nodes groups positions goals start old kept waits'
        last_played still =
            all_played start set last' waits' r.sifted r.same round_reached
            (λ i h.
            reduced_still can done goal nodes goals rises set r.sifted 0 goals left reduced still i (omega arith) h)
