-- Stages of a plant that settles: they grow, and stand still after as many as there are states; a stage is sound; of its
-- own states those that can leave are just those that are not settled; and a start that has all kept states gives the
-- same stages. Assumes nothing.
use mathlib.Core.Path.{◌≡◌, refl}
use mathlib.Core.Logic.{◌⊎◌, inl, inr, ⊎_elim}
use mathlib.Core.Bool.{Bool, true, false, ◌&&◌, ◌||◌}
use mathlib.Core.List.{List, [], ◌∷◌}
use Prim.Native.Nat.{ℕ, zero, suc, ◌-◌, ◌≤◌, ◌<◌}
use native.Mathlib.Decide.{dec_lt}
use native.Mathlib.Omega.{arith}
use Rattle.statements.specs.Sets.{numbers, iterate, is_in, filter}
use Rattle.statements.specs.Plants.{Plant, settled, can}
use Rattle.statements.specs.Kept.{forced, held_within, next_stage, stages_to, stages_before, Stage}
use Rattle.sets.proofs.Tests.{decided, same_number, not_both, and_true, and_left, and_right, or_left, or_right, or_cases}
use Rattle.sets.proofs.Members.{Sifted, sifted_same, is_in_none, length_numbers}
use Rattle.sets.proofs.First.{first_holds, first_least}
use Rattle.sets.proofs.Iterate.{iterate_sifted, iterate_still, grown_full}
use Rattle.kept.proofs.Moves.{Sub, MaskWithin, can_more, can_none}
use Rattle.kept.proofs.Reach.{target_holds, target_in, forced_target, forced_closed, forced_least, forced_more}
use Rattle.kept.proofs.Held.{held_sifted, held_within_lem, held_forced, held_done, held_closed, held_into}
use Rattle.kept.proofs.Held.{held_greatest}
use Rattle.kept.proofs.Waits.{Sound, kept_can}

pub none_sifted : (all : List ℕ) → Sifted all []
unfolding is_in filter
none_sifted [] = refl
none_sifted (x ∷ xs) = none_sifted xs

-- the smaller of two numbers
either : (a b : ℕ) → (a ≤ b) ⊎ (b ≤ a)
either a b = elim (dec_lt b a) [ yes l ↦ inr (omega arith) | no l ↦ inl (omega arith) ]

module _ (p : Plant) (mask : ℕ) (within : ℕ → Bool) where
  abbrev pub Upto : ℕ → List ℕ
  Upto k = stages_to k p mask within

  -- the states a stage may pass: settled, or exits
  abbrev pub calm : ℕ → ℕ → Bool
  calm k x = within x && (settled p x || can p mask (Upto k) x)

  pub stages_none : (x : ℕ) → is_in x (Upto 0) ≡ true → ⊥
  unfolding stages_to iterate
  stages_none x h = is_in_none x h

  pub stages_suc : (k : ℕ) → Upto (suc k) ≡ held_within p mask (can p mask (Upto k)) (calm k)
  unfolding stages_to iterate next_stage
  stages_suc k = refl

  next_sifted : (ys : List ℕ) → Sifted (numbers p.states 0) (next_stage p mask within ys)
  unfolding next_stage
  next_sifted ys = held_sifted p mask (can p mask ys) (λ x. within x && (settled p x || can p mask ys x))

  pub stages_sifted : (k : ℕ) → Sifted (numbers p.states 0) (Upto k)
  unfolding stages_to
  stages_sifted k =
      iterate_sifted (numbers p.states 0) [] (next_stage p mask within) (none_sifted (numbers p.states 0))
      (λ ys s. next_sifted ys) k

  -- what a stage holds
  pub stages_calm : (k x : ℕ) → is_in x (Upto (suc k)) ≡ true →
      (x < p.states) × (within x ≡ true) × ((settled p x ≡ true) ⊎ (can p mask (Upto k) x ≡ true))
  stages_calm k x h =
      let r = held_within_lem p mask (can p mask (Upto k)) (calm k) x (rw (stages_suc k) at h) in
      let c = settled p x || can p mask (Upto k) x in
      (r.0, and_left (within x) c r.1, or_cases (settled p x) (can p mask (Upto k) x) (and_right (within x) c r.1))

  pub stages_within : (k x : ℕ) → is_in x (Upto k) ≡ true → (x < p.states) × (within x ≡ true)
  stages_within zero x h = absurd (stages_none x h)
  stages_within (suc k) x h = let r = stages_calm k x h in (r.0, r.1)

  stages_forced : (k x i : ℕ) → is_in x (Upto (suc k)) ≡ true → i < p.goals →
      is_in x (forced p mask (can p mask (Upto k)) (Upto (suc k)) i) ≡ true
  unfolding stages_to iterate next_stage
  stages_forced k x i h l = held_forced p mask (can p mask (Upto k)) (calm k) x i h l

  -- its exits are in it
  pub exit_in : (k x : ℕ) → x < p.states → within x ≡ true → can p mask (Upto k) x ≡ true →
      is_in x (Upto (suc k)) ≡ true
  exit_in k x l w c =
      rw (stages_suc k)
      (held_done p mask (can p mask (Upto k)) (calm k) x l
      (and_true w (or_right (settled p x) (can p mask (Upto k) x) c)) c)

  -- the stage that comes after k others
  abbrev pub stage : ℕ → Stage
  stage k = record { earlier = Upto k; exits = can p mask (Upto k); through = Upto (suc k) }

  module _ (some_goal : 0 < p.goals) where
    -- every state of the first stages can go on through them, so that each next stage has those before it
    sound_by : (k : ℕ) → ((x : ℕ) → is_in x (Upto k) ≡ true → can p mask (Upto k) x ≡ true) → Sound p mask (stage k)
    sound_by k on =
        record {
          forces = stages_forced k;
          lower = λ x h. let r = stages_within k x h in exit_in k x r.0 r.1 (on x h);
          leads = λ x e. e;
          over = on;
        }

    pub stages_can : (k x : ℕ) → is_in x (Upto k) ≡ true → can p mask (Upto k) x ≡ true
    stages_can zero x h = absurd (stages_none x h)
    stages_can (suc k) x h = kept_can p mask (stage k) some_goal (sound_by k (stages_can k)) x h

    pub stage_sound : (k : ℕ) → Sound p mask (stage k)
    stage_sound k = sound_by k (stages_can k)

    pub stages_step : (k : ℕ) → Sub (Upto k) (Upto (suc k))
    stages_step k = (stage_sound k).lower

    pub stages_later : (j k : ℕ) → j ≤ k → Sub (Upto j) (Upto k)
    stages_later j zero l x h = let e : j ≡ 0 = omega arith in rw e at h
    stages_later j (suc k) l x h =
        ⊎_elim (λ e. rw e at h) (λ d. stages_step k x (stages_later j k (omega arith) x h)) (same_number j (suc k))

    -- there are no more stages than states
    pub stages_full : (k : ℕ) → p.states ≤ k → Upto (suc k) ≡ Upto k
    unfolding stages_to iterate
    stages_full k h =
        grown_full (numbers p.states 0) [] (next_stage p mask within) (none_sifted (numbers p.states 0))
        (λ ys s. next_sifted ys) stages_step k (omega (arith, length_numbers p.states 0))

    pub stages_top : (k : ℕ) → Sub (Upto k) (Upto p.states)
    unfolding stages_to iterate
    stages_top k x h =
        ⊎_elim
        (λ l. stages_later k p.states l x h)
        (λ l. rw (iterate_still p.states k (next_stage p mask within) [] (stages_full p.states (omega arith)) l) at h)
        (either k p.states)

    -- a settled state with a move wholly into the first stages, of which there is one, is in them
    pub settled_in : (k x : ℕ) → x < p.states → within x ≡ true → settled p x ≡ true →
        can p mask (Upto (suc k)) x ≡ true → is_in x (Upto (suc k)) ≡ true
    settled_in k x l w s c =
        rw (stages_suc k)
        (held_closed p mask (can p mask (Upto k)) (calm k) x l
        (and_true w (or_left (settled p x) (can p mask (Upto k) x) s)) (rw (stages_suc k) at c))

    -- so that of the states new in a stage those that can leave are just those that are not settled
    pub exit_unsettled : (k x : ℕ) → is_in x (Upto (suc k)) ≡ true → is_in x (Upto k) ≡ false →
        can p mask (Upto k) x ≡ true → settled p x ≡ false
    unfolding stages_to iterate
    exit_unsettled zero x h o c = absurd (can_none p mask x c)
    exit_unsettled (suc k) x h o c =
        let r = stages_within (suc (suc k)) x h in
        ⊎_elim (λ s. absurd (not_both (settled_in k x r.0 r.1 s c) o)) (λ e. e) (decided (settled p x))

    -- the stages stand still where no state that is not settled can newly leave
    pub stages_stop : (k : ℕ) →
        ((x : ℕ) → x < p.states → within x ≡ true → settled p x ≡ false → can p mask (Upto (suc k)) x ≡ true →
        is_in x (Upto (suc k)) ≡ true) → Upto (suc (suc k)) ≡ Upto (suc k)
    stages_stop k none =
        sifted_same (numbers p.states 0) (Upto (suc (suc k))) (Upto (suc k)) (stages_sifted (suc (suc k)))
        (stages_sifted (suc k))
        (λ x h. rw (stages_suc k)
        (held_greatest p mask (can p mask (Upto k)) (calm k) (Upto (suc (suc k))) passes forces x h))
        (stages_step (suc k))
      where
        -- a state with a move wholly into the first stages is in them
        closed : (x : ℕ) → x < p.states → within x ≡ true → can p mask (Upto (suc k)) x ≡ true →
            is_in x (Upto (suc k)) ≡ true
        closed x l w c =
            ⊎_elim (λ s. settled_in k x l w s c) (λ s. none x l w s c) (decided (settled p x))

        passes : (x : ℕ) → is_in x (Upto (suc (suc k))) ≡ true → (x < p.states) × (calm k x ≡ true)
        passes x h =
            let r = stages_calm (suc k) x h in (
              r.0,
              ⊎_elim
                  (λ s. and_true r.1 (or_left (settled p x) (can p mask (Upto k) x) s))
                  (λ c. (held_within_lem p mask (can p mask (Upto k)) (calm k) x
                  (rw (stages_suc k) at (closed x r.0 r.1 c))).1)
                  r.2,
            )

        forces : (x i : ℕ) → is_in x (Upto (suc (suc k))) ≡ true → i < p.goals →
            is_in x (forced p mask (can p mask (Upto k)) (Upto (suc (suc k))) i) ≡ true
        forces x i h l =
            let all = Upto (suc (suc k)) in
            let done : ℕ → Bool = can p mask (Upto k) in
            forced_least p mask all (can p mask (Upto (suc k))) i (forced p mask done all i)
            (λ y t.
            let r = target_holds p mask all (can p mask (Upto (suc k))) i y t in
            let b = stages_within (suc (suc k)) y r.0 in
            ⊎_elim
            (λ c. forced_more p mask mask done done (Upto (suc k)) all i (λ u e. e) (λ z m e. e) (stages_step (suc k)) y
            (stages_forced k y i (closed y b.0 b.1 c) l))
            (λ g. forced_target p mask all done i y (target_in p mask all done i y r.0 g.0 g.1))
            r.1)
            (λ y a c. forced_closed p mask all done i y a c)
            x (stages_forced (suc k) x i h l)

-- what is in a stage is in that stage with more moves in service, and within any states that hold it all
pub stages_into : (p : Plant) (m n : ℕ) (v w : ℕ → Bool) → MaskWithin m n →
    ((k x : ℕ) → is_in x (stages_to k p m v) ≡ true → w x ≡ true) → (k : ℕ) →
    Sub (stages_to k p m v) (stages_to k p n w)
stages_into p m n v w b s zero x h = absurd (stages_none p m v x h)
stages_into p m n v w b s (suc k) x h =
    let low = stages_to k p m v in
    let high = stages_to k p n w in
    let on : (y : ℕ) → can p m low y ≡ true → can p n high y ≡ true =
    λ y c. can_more p m n low high y b (stages_into p m n v w b s k) c in
    rw (stages_suc p n w k)
    (held_into p m n (can p m low) (can p n high) (calm p m v k) (calm p n w k) b
    (λ y q.
    let r = stages_calm p m v k y (rw (← stages_suc p m v k) at q) in
    and_true (s (suc k) y (rw (← stages_suc p m v k) at q))
    (⊎_elim (λ e. or_left (settled p y) (can p n high y) e) (λ e. or_right (settled p y) (can p n high y) (on y e)) r.2))
    (λ y q e. on y e)
    x (rw (stages_suc p m v k) at h))

-- a start that has all states of the stages, and no others than the first start, gives the same stages
pub stages_between : (p : Plant) (mask : ℕ) (v w : ℕ → Bool) → ((x : ℕ) → v x ≡ true → w x ≡ true) →
    ((k x : ℕ) → is_in x (stages_to k p mask w) ≡ true → v x ≡ true) → (k : ℕ) →
    stages_to k p mask v ≡ stages_to k p mask w
stages_between p mask v w s t k =
    sifted_same (numbers p.states 0) (stages_to k p mask v) (stages_to k p mask w) (stages_sifted p mask v k)
    (stages_sifted p mask w k)
    (stages_into p mask mask v w (λ u e. e) (λ j x h. s x (stages_within p mask v j x h).1) k)
    (stages_into p mask mask w v (λ u e. e) t k)

-- how many stages come before that of a state, the start being a list
module _ (p : Plant) (mask : ℕ) (kept : List ℕ) where
  abbrev Kept : ℕ → Bool
  Kept y = is_in y kept

  pub before_least : (k x : ℕ) → k < p.states → is_in x (stages_to (suc k) p mask Kept) ≡ true →
      stages_before p mask kept x ≤ k
  unfolding stages_before
  before_least k x l h =
      first_least p.states 0 (λ j. is_in x (stages_to (suc j) p mask Kept)) k (omega arith) (omega arith) h

  module _ (x : ℕ) (h : is_in x (stages_to p.states p mask Kept) ≡ true) where
    pub before_below : stages_before p mask kept x < p.states
    before_below =
        let r = stages_within p mask Kept p.states x h in
        let e : suc (p.states - 1) ≡ p.states = omega arith in
        let l = before_least (p.states - 1) x (omega arith) (rw e h) in
        omega arith

    pub before_in : is_in x (stages_to (suc (stages_before p mask kept x)) p mask Kept) ≡ true
    unfolding stages_before
    before_in =
        first_holds p.states 0 (λ j. is_in x (stages_to (suc j) p mask Kept)) (let l = before_below in omega arith)

    pub before_not : is_in x (stages_to (stages_before p mask kept x) p mask Kept) ≡ false
    before_not =
        ⊎_elim (λ e. absurd (too_low (stages_before p mask kept x) refl e)) (λ e. e)
        (decided (is_in x (stages_to (stages_before p mask kept x) p mask Kept)))
      where
        too_low : (k : ℕ) → stages_before p mask kept x ≡ k → is_in x (stages_to k p mask Kept) ≡ true → ⊥
        too_low zero e m = stages_none p mask Kept x m
        too_low (suc k) e m = let b = before_below in let l = before_least k x (omega arith) m in omega arith
