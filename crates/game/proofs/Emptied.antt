-- A worklist that is run until it is empty leaves the greatest part of the set without its first nodes that goes on
-- within itself. Assumes nothing.
use mathlib.Core.Path.{◌≡◌, refl, sym, ap, ◌∙◌, subst}
use mathlib.Core.Logic.{◌⊎◌, inl, inr, ⊎_elim}
use mathlib.Core.Bool.{Bool, true, false, ◌&&◌, not}
use mathlib.Core.List.{List}
use Prim.Native.Nat.{ℕ, ◌+◌, ◌≤◌}
use native.Mathlib.Omega.{arith}
use borrow.Author.Tests.{lt-ltb}
use lib.ListN.{length, get_or, take}
use Rattle.statements.specs.Sets.{numbers, is_in}
use Rattle.sets.proofs.Tests.{decided, not_both}
use Rattle.sets.proofs.Members.{Sifted, sifted_sub, sifted_same}
use Rattle.sets.proofs.Iterate.{sifted_below}
use Rattle.game.specs.Game.{Can}
use Rattle.game.specs.Packed.{groups_in, rev_in, starts_in, labels_in, over_at, can_in}
use Rattle.game.specs.Marks.{Marked, without}
use Rattle.game.specs.Playing.{Ready}
use Rattle.game.specs.Draining.{drained, Emptied, Taken}
use Rattle.game.proofs.Counts.{and_off, in_take, take_in}
use Rattle.game.proofs.Parts.{groups_length, starts_nodes}
use Rattle.game.proofs.Attractors.{Sub}
use Rattle.game.proofs.Standing.{can_more, live_can}
use Rattle.game.proofs.Strikes.{in_without, without_holds, without_in}
use Rattle.game.proofs.Drained.{Rises, drained_within, drained_sifted, drained_moves, drained_greatest}
use Rattle.game.proofs.Emptying.{fewer_in, state_few}

-- the first `head` nodes of the worklist are taken off it, for whichever set the marks were
pub record Running (graph : List ℕ) (n groups positions first : ℕ) (member₀ live₀ dead₀ list₀ : List ℕ)
    (member live dead list : List ℕ) (head tail : ℕ) : Type 0 where
  pub member_size : length member ≡ length member₀
  pub live_size : length live ≡ length live₀
  pub dead_size : length dead ≡ length dead₀
  pub list_size : length list ≡ length list₀
  pub state : (xs : List ℕ) → Taken graph n groups positions xs (take first list₀) member₀ live₀ dead₀ list₀ 0 first
      → Taken graph n groups positions xs (take first list₀) member live dead list head tail

module _ (graph : List ℕ) (n groups positions first : ℕ) (member₀ live₀ dead₀ list₀ : List ℕ) where
  -- none yet
  pub run_start : Running graph n groups positions first member₀ live₀ dead₀ list₀ member₀ live₀ dead₀ list₀ 0 first
  run_start =
      record { member_size = refl; live_size = refl; dead_size = refl; list_size = refl; state = λ xs t. t }

  -- one more
  pub run_more : {member live dead list member' live' dead' list' : List ℕ} {head tail tail' : ℕ}
      → Running graph n groups positions first member₀ live₀ dead₀ list₀ member live dead list head tail
      → length member' ≡ length member → length live' ≡ length live → length dead' ≡ length dead
      → length list' ≡ length list
      → ((xs given : List ℕ) → Taken graph n groups positions xs given member live dead list head tail
      → Taken graph n groups positions xs given member' live' dead' list' (head + 1) tail')
      → Running graph n groups positions first member₀ live₀ dead₀ list₀ member' live' dead' list' (head + 1) tail'
  run_more c em el ed es step =
      record {
        member_size = em ∙ c.member_size;
        live_size = el ∙ c.live_size;
        dead_size = ed ∙ c.dead_size;
        list_size = es ∙ c.list_size;
        state = λ xs t. step xs (take first list₀) (c.state xs t);
      }

  -- all
  pub run_end : {member live dead list : List ℕ} {head tail : ℕ}
      → Running graph n groups positions first member₀ live₀ dead₀ list₀ member live dead list head tail → tail ≤ head
      → (xs : List ℕ) → Taken graph n groups positions xs (take first list₀) member₀ live₀ dead₀ list₀ 0 first
      → Taken graph n groups positions xs (take first list₀) member live dead list tail tail
  run_end {member} {live} {dead} {list} {head} {tail} c h xs t =
      let now = c.state xs t in
      let e : head ≡ tail = omega (arith, now.0) in
      subst
      (λ (k : ℕ). Taken graph n groups positions xs (take first list₀) member live dead list k tail) e now

module _ (graph : List ℕ) (n groups positions goals : ℕ) (ready : Ready graph n groups positions goals)
    {xs first member live dead list : List ℕ} {tail : ℕ}
    (t : Taken graph n groups positions xs first member live dead list tail tail) where
  abbrev can : Can
  can = can_in graph n groups positions

  abbrev done : ℕ → Bool
  done = over_at (labels_in graph n)

  abbrev left : List ℕ
  left = without (take tail list) xs

  abbrev begun : List ℕ
  begun = without first xs

  rises : Rises can
  unfolding can_in
  rises = can_more (groups_in graph groups) (starts_in graph n) (rev_in graph positions)

  in_left : (x : ℕ) → is_in x left ≡ true → (is_in x xs ≡ true) × (is_in x (take tail list) ≡ false)
  in_left x m = without_holds x (take tail list) xs m

  -- the first nodes are among those struck out
  left_begun : Sub left begun
  left_begun x m =
      let r = in_left x m in
      let out : is_in x first ≡ false =
      ⊎_elim
      (λ k.
      absurd (not_both
      (fewer_in list (length first) tail x t.1.from (state_few graph n groups positions goals ready t.1)
      (rw t.1.front k))
      r.1))
      (λ k. k)
      (decided (is_in x first)) in
      without_in x first xs r.0 out

  -- each node left goes on among them
  left_goes : (x : ℕ) → is_in x left ≡ true → (done x ≡ true) ⊎ (can left x ≡ true)
  unfolding can_in
  left_goes x m =
      let r = in_left x m in
      let low = sifted_below n xs t.1.sifted x r.0 in
      ⊎_elim
      (λ d. inl d)
      (λ l.
      inr (sym (live_can (groups_in graph groups) (starts_in graph n) (rev_in graph positions)
      (λ g h. ready.full g (omega (arith, groups_length graph ready.fits))) left member live dead t.1.marks x
      (omega (arith, starts_nodes graph ready.fits)))
      ∙ lt-ltb 0 (get_or live x 0) l))
      (t.1.others x r.0 r.1)

  begun_sifted : Sifted (numbers n 0) begun
  unfolding without
  begun_sifted = sifted_sub (λ x. not (is_in x first)) (numbers n 0) xs t.1.sifted

  left_sifted : Sifted (numbers n 0) left
  unfolding without
  left_sifted = sifted_sub (λ x. not (is_in x (take tail list))) (numbers n 0) xs t.1.sifted

  left_is : left ≡ drained can done begun
  left_is =
      sifted_same (numbers n 0) left (drained can done begun) left_sifted
      (drained_sifted can done (numbers n 0) begun begun_sifted)
      (drained_greatest can done rises left begun left_begun left_goes)
      (λ x m.
      let within = drained_within can done begun in
      let there = (without_holds x first xs (within x m)).0 in
      let out =
      t.1.spares (drained can done begun) within (drained_moves can done (numbers n 0) begun begun_sifted) x m in
      without_in x (take tail list) xs there out)

  pub emptied_marked : Marked (groups_in graph groups) (starts_in graph n) (rev_in graph positions)
      (drained can done begun) member live dead
  emptied_marked =
      subst
      (λ (ys : List ℕ). Marked (groups_in graph groups) (starts_in graph n) (rev_in graph positions) ys member live dead)
      left_is t.1.marks

  -- what went on the list is what was struck out
  pub emptied : Emptied xs (drained can done begun) list tail
  emptied =
      record {
        within = room;
        once = λ j k l h e.
            not_both (rw e at (take_in k j list l (omega (arith, room)))) (t.1.once k h);
        struck = λ x. rw (← left_is) (on x, off x);
        all = omega (arith, t.1.number, ap length left_is);
      }
    where
      room : tail ≤ length list
      room = state_few graph n groups positions goals ready t.1

      on : (x : ℕ) → is_in x (take tail list) ≡ true → (is_in x xs ≡ true) × (is_in x left ≡ false)
      on x m =
          let o = in_take tail list x m in (
            rw o.1.1 at (t.1.inside o.0 o.1.0),
            in_without x (take tail list) xs ∙ (ap (λ (b : Bool). is_in x xs && not b) m ∙ and_off (is_in x xs)),
          )

      off : (x : ℕ) → (is_in x xs ≡ true) × (is_in x left ≡ false) → is_in x (take tail list) ≡ true
      off x r =
          ⊎_elim
          (λ k. k)
          (λ k. absurd (not_both (without_in x (take tail list) xs r.0 k) r.1))
          (decided (is_in x (take tail list)))
