-- The states held with some at which a run is over: the rounds stand still at last, the states held force every goal, or
-- such a state, within themselves, and every set that does so is held. Assumes nothing.
use mathlib.Core.Path.{◌≡◌, refl}
use mathlib.Core.Logic.{⊎_elim}
use mathlib.Core.Bool.{Bool, true}
use mathlib.Core.List.{List}
use Prim.Native.Nat.{ℕ, zero, suc, ◌≤◌, ◌<◌}
use native.Mathlib.Omega.{arith}
use Rattle.statements.specs.Sets.{numbers, iterate, is_in, filter}
use Rattle.statements.specs.Plants.{Plant, can}
use Rattle.statements.specs.Kept.{forced, forced_all, held_round, held_within}
use Rattle.sets.proofs.Tests.{same_number}
use Rattle.sets.proofs.Members.{Sifted, sifted_filter, sifted_sub, sifted_same, filter_holds, filter_in}
use Rattle.sets.proofs.Members.{filter_length, length_numbers, numbers_holds, numbers_in_lem}
use Rattle.sets.proofs.Iterate.{iterate_sifted, shrunk_full}
use Rattle.kept.proofs.Moves.{Sub, MaskWithin, can_more}
use Rattle.kept.proofs.Reach.{target_done, forced_target, forced_closed, forced_more}

-- a state from which each of the first n goals is forced within a set
pub forced_all_holds : (n : ℕ) (p : Plant) (mask : ℕ) (done : ℕ → Bool) (all : List ℕ) (x : ℕ) → is_in x (forced_all n p mask done all) ≡ true →
    (is_in x all ≡ true) × ((i : ℕ) → i < n → is_in x (forced p mask done all i) ≡ true)
unfolding forced_all
forced_all_holds zero p mask done all x h = (h, λ i l. absurd (omega arith))
forced_all_holds (suc n) p mask done all x h =
    let r = filter_holds (λ z. is_in z (forced p mask done all n)) (forced_all n p mask done all) x h in
    let ih = forced_all_holds n p mask done all x r.0 in
    (ih.0, λ i l. ⊎_elim (λ e. rw e r.1) (λ d. ih.1 i (omega arith)) (same_number i n))

pub forced_all_in : (n : ℕ) (p : Plant) (mask : ℕ) (done : ℕ → Bool) (all : List ℕ) (x : ℕ) → is_in x all ≡ true →
    ((i : ℕ) → i < n → is_in x (forced p mask done all i) ≡ true) → is_in x (forced_all n p mask done all) ≡ true
unfolding forced_all
forced_all_in zero p mask done all x a f = a
forced_all_in (suc n) p mask done all x a f =
    filter_in (λ z. is_in z (forced p mask done all n)) (forced_all n p mask done all) x
    (forced_all_in n p mask done all x a (λ i l. f i (omega arith))) (f n (omega arith))

pub forced_all_sifted : (n : ℕ) (p : Plant) (mask : ℕ) (done : ℕ → Bool) (base all : List ℕ) → Sifted base all →
    Sifted base (forced_all n p mask done all)
unfolding forced_all
forced_all_sifted zero p mask done base all s = s
forced_all_sifted (suc n) p mask done base all s =
    sifted_sub (λ z. is_in z (forced p mask done all n)) base (forced_all n p mask done all)
    (forced_all_sifted n p mask done base all s)

module _ (p : Plant) (mask : ℕ) (done within : ℕ → Bool) where
  -- the rounds
  pub round_zero : (x : ℕ) → x < p.states → within x ≡ true → is_in x (held_round 0 p mask done within) ≡ true
  unfolding held_round iterate
  round_zero x l w =
      filter_in within (numbers p.states 0) x (numbers_in_lem p.states 0 x (omega arith) (omega arith)) w

  pub round_suc : (n : ℕ) → held_round (suc n) p mask done within ≡ forced_all p.goals p mask done (held_round n p mask done within)
  unfolding held_round iterate
  round_suc n = refl

  pub round_sifted : (n : ℕ) → Sifted (numbers p.states 0) (held_round n p mask done within)
  unfolding held_round
  round_sifted n =
      iterate_sifted (numbers p.states 0) (filter within (numbers p.states 0)) (forced_all p.goals p mask done)
      (sifted_filter within (numbers p.states 0)) (forced_all_sifted p.goals p mask done (numbers p.states 0)) n

  pub round_less : (n : ℕ) → Sub (held_round (suc n) p mask done within) (held_round n p mask done within)
  round_less n x h = (forced_all_holds p.goals p mask done (held_round n p mask done within) x (rw (round_suc n) at h)).0

  pub round_later : (n m : ℕ) → n ≤ m → Sub (held_round m p mask done within) (held_round n p mask done within)
  round_later n zero l x h = let e : n ≡ 0 = omega arith in rw e h
  round_later n (suc m) l x h =
      ⊎_elim (λ e. rw e h) (λ d. round_later n m (omega arith) x (round_less m x h)) (same_number n (suc m))

  pub round_within : (n x : ℕ) → is_in x (held_round n p mask done within) ≡ true → (x < p.states) × (within x ≡ true)
  unfolding held_round iterate
  round_within n x h =
      let r = filter_holds within (numbers p.states 0) x (round_later 0 n (omega arith) x h) in
      let k = numbers_holds p.states 0 x r.0 in
      (omega arith, r.1)

  -- the rounds stand still after as many as there are states
  pub round_full : (n : ℕ) → p.states ≤ n → held_round (suc n) p mask done within ≡ held_round n p mask done within
  unfolding held_round iterate
  round_full n h =
      shrunk_full (numbers p.states 0) (filter within (numbers p.states 0)) (forced_all p.goals p mask done)
      (sifted_filter within (numbers p.states 0)) (forced_all_sifted p.goals p mask done (numbers p.states 0))
      (λ ys x m. (forced_all_holds p.goals p mask done ys x m).0) n
      (omega (arith, filter_length within (numbers p.states 0), length_numbers p.states 0))

  -- kept states: a set of states at which the test holds, from which every goal is forced within it
  pub held_sifted : Sifted (numbers p.states 0) (held_within p mask done within)
  unfolding held_within
  held_sifted = round_sifted p.states

  pub held_within_lem : (x : ℕ) → is_in x (held_within p mask done within) ≡ true → (x < p.states) × (within x ≡ true)
  unfolding held_within
  held_within_lem x h = round_within p.states x h

  pub held_forced : (x i : ℕ) → is_in x (held_within p mask done within) ≡ true → i < p.goals →
      is_in x (forced p mask done (held_within p mask done within) i) ≡ true
  unfolding held_within
  held_forced x i h l =
      (forced_all_holds p.goals p mask done (held_round p.states p mask done within) x
      (rw (← round_suc p.states, round_full p.states (omega arith)) h)).1 i l

  -- and every such set is kept
  pub held_greatest : (zs : List ℕ) → ((x : ℕ) → is_in x zs ≡ true → (x < p.states) × (within x ≡ true)) →
      ((x i : ℕ) → is_in x zs ≡ true → i < p.goals → is_in x (forced p mask done zs i) ≡ true) →
      Sub zs (held_within p mask done within)
  unfolding held_within
  held_greatest zs w f = in_round p.states
    where
      in_round : (n : ℕ) → Sub zs (held_round n p mask done within)
      in_round zero x h = let r = w x h in round_zero x r.0 r.1
      in_round (suc n) x h =
          rw (round_suc n)
          (forced_all_in p.goals p mask done (held_round n p mask done within) x (in_round n x h)
          (λ i l.
          forced_more p mask mask done done zs (held_round n p mask done within) i (λ u e. e) (λ y m e. e) (in_round n) x
          (f x i h l)))

  -- a state at which a run is over is held
  pub held_done : (x : ℕ) → x < p.states → within x ≡ true → done x ≡ true →
      is_in x (held_within p mask done within) ≡ true
  unfolding held_within
  held_done x l w e = in_round p.states
    where
      in_round : (n : ℕ) → is_in x (held_round n p mask done within) ≡ true
      in_round zero = round_zero x l w
      in_round (suc n) =
          rw (round_suc n)
          (forced_all_in p.goals p mask done (held_round n p mask done within) x (in_round n)
          (λ i b. forced_target p mask (held_round n p mask done within) done i x
          (target_done p mask (held_round n p mask done within) done i x (in_round n) e)))

  -- and so is one with a move wholly into the states held
  pub held_closed : (x : ℕ) → x < p.states → within x ≡ true → can p mask (held_within p mask done within) x ≡ true →
      is_in x (held_within p mask done within) ≡ true
  unfolding held_within
  held_closed x l w c = in_round p.states (omega arith)
    where
      in_round : (n : ℕ) → n ≤ p.states → is_in x (held_round n p mask done within) ≡ true
      in_round zero b = round_zero x l w
      in_round (suc n) b =
          let xs = held_round n p mask done within in
          rw (round_suc n)
          (forced_all_in p.goals p mask done xs x (in_round n (omega arith))
          (λ i g. forced_closed p mask xs done i x (in_round n (omega arith))
          (can_more p mask mask (held_round p.states p mask done within) (forced p mask done xs i) x (λ u e. e)
          (λ y h. (forced_all_holds p.goals p mask done xs y
          (rw (round_suc n) at (round_later (suc n) p.states b y h))).1 i g) c)))

-- what is held is held with more moves in service, within any states that hold it all, if its states at which a run is
-- over still are
pub held_into : (p : Plant) (m n : ℕ) (d e v w : ℕ → Bool) → MaskWithin m n →
    ((x : ℕ) → is_in x (held_within p m d v) ≡ true → w x ≡ true) →
    ((x : ℕ) → is_in x (held_within p m d v) ≡ true → d x ≡ true → e x ≡ true) →
    Sub (held_within p m d v) (held_within p n e w)
held_into p m n d e v w b s t =
    let xs = held_within p m d v in
    held_greatest p n e w xs (λ x h. ((held_within_lem p m d v x h).0, s x h))
    (λ x i h l. forced_more p m n d e xs xs i b t (λ y k. k) x (held_forced p m d v x i h l))

-- two that hold each other are the same
pub held_same : (p : Plant) (mask : ℕ) (d e v w : ℕ → Bool) → Sub (held_within p mask d v) (held_within p mask e w) →
    Sub (held_within p mask e w) (held_within p mask d v) → held_within p mask d v ≡ held_within p mask e w
held_same p mask d e v w =
    sifted_same (numbers p.states 0) (held_within p mask d v) (held_within p mask e w) (held_sifted p mask d v)
    (held_sifted p mask e w)
