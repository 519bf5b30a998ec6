-- One stage more: the states held are those of the next stage, and their entries are those of the book.
-- Assumes nothing.
use mathlib.Core.Path.{◌≡◌, refl, sym, ap, ap₂, ◌∙◌, subst}
use mathlib.Core.Logic.{⊎_elim}
use mathlib.Core.Bool.{Bool, true, false, ◌||◌}
use mathlib.Core.List.{List, [], ◌∷◌, ◌++◌}
use Prim.Native.Nat.{ℕ, zero, suc, ◌≤◌, ◌<◌}
use native.Mathlib.Omega.{arith}
use native.Mathlib.Decide.{dec_lt}
use lib.Dec.{ltb}
use lib.ListN.{length, get_or, take}
use borrow.Author.Tests.{lt-ltb, ltb-true}
use Rattle.statements.specs.Sets.{pick, numbers, joined, is_in, filter}
use Rattle.statements.specs.Plants.{Plant, settled, move_into, can}
use Rattle.statements.specs.Kept.{stages_to, kept_within, stages_before, stage_of, Stage, stage_after, stage_for}
use Rattle.statements.specs.Kept.{wait_in, wait_of, landing, listed_move}
use Rattle.statements.specs.Books.{lost_mark}
use Rattle.sets.proofs.Tests.{decided, not_both, and_true, and_left, and_right}
use Rattle.sets.proofs.Members.{Sifted, sifted_filter, sifted_member, sifted_same, sifted_sub, filter_holds, filter_in}
use Rattle.sets.proofs.Members.{numbers_holds}
use Rattle.kept.proofs.Held.{held_within_lem, held_into, held_same}
use Rattle.kept.proofs.Stages.{calm, stage, stages_suc, stages_sifted, stages_top}
use Rattle.kept.proofs.Kept.{kept_staged, stages_kept, for_staged, stage_upto, upto_stage}
use Rattle.kept.proofs.Waits.{Sound}
use Rattle.arrays.specs.Lists.{among}
use Rattle.solve.specs.Given.{below}
use Rattle.solve.specs.Reached.{goes, reached, reached_by}
use Rattle.solve.specs.Rows.{kept_from, entry_numbers, stage_numbers, one_row}
use Rattle.solve.specs.Stages.{passing, Opened, Staged}
use Rattle.solve.proofs.Starts.{begun, take_fits}
use Rattle.solve.proofs.StageReach.{stage_reached}

-- a stage begins with the states that it may pass, a set of states
pub first_set : {p : Plant} {mask count : ℕ} {start earlier leave all : List ℕ}
    → Opened p mask start earlier leave all count → Sifted (numbers p.states 0) start
    → (count ≤ length all) × Sifted (numbers p.states 0) (take count all)
first_set {p} {mask} {count} {start} {earlier} {leave} {all} o set = (
  take_fits count all (ap length o.list ∙ sym o.number),
  subst (Sifted (numbers p.states 0)) (sym o.list)
      (sifted_sub (passing p mask earlier) (numbers p.states 0) start set),
)

module _ (p : Plant) (mask : ℕ) (start : List ℕ) (k : ℕ) (stages old rows : List ℕ)
    (so_far : Staged p mask start k stages old rows) where
  abbrev Upto : ℕ → List ℕ
  Upto n = stages_to n p mask (among start)

  abbrev has_stage : ℕ → Bool
  has_stage x = ltb (get_or stages x 0) 65535

  -- the states with a stage are those of the stages so far
  pub below_stages : below stages 65535 p.states ≡ Upto k
  unfolding below
  below_stages =
      sifted_same (numbers p.states 0) (filter has_stage (numbers p.states 0)) (Upto k)
      (sifted_filter has_stage (numbers p.states 0)) (stages_sifted p mask (among start) k)
      (λ x m.
      let r = filter_holds has_stage (numbers p.states 0) x m in
      let n = numbers_holds p.states 0 x r.0 in
      ⊎_elim (λ h. h)
      (λ h. absurd (omega (arith, ltb-true (get_or stages x 0) 65535 r.1, so_far.not_yet x (omega arith) h)))
      (decided (is_in x (Upto k))))
      (λ x m. filter_in has_stage (numbers p.states 0) x
      (sifted_member (numbers p.states 0) (Upto k) (stages_sifted p mask (among start) k) x m)
      (lt-ltb (get_or stages x 0) 65535 (so_far.has x m)))

  module _ (set : Sifted (numbers p.states 0) start) (leave all : List ℕ) (count : ℕ)
      (o : Opened p mask start (below stages 65535 p.states) leave all count) where
    abbrev first : List ℕ
    first = take count all

    opened : Opened p mask start (Upto k) leave all count
    opened = subst (λ (ys : List ℕ). Opened p mask start ys leave all count) below_stages o

    -- a state of the start leaves where it has a move wholly into the stages so far
    goes_can : (x : ℕ) → is_in x start ≡ true → goes p leave x ≡ can p mask (Upto k) x
    unfolding goes can
    goes_can x m = ap (λ (v : ℕ). ltb v p.moves) (opened.leaves x m)

    -- the rounds begin with the states that the stage may pass
    first_holds : (x : ℕ) → is_in x first ≡ true → (is_in x start ≡ true) × (passing p mask (Upto k) x ≡ true)
    first_holds x m = filter_holds (passing p mask (Upto k)) start x (rw opened.list at m)

    -- and leave those of one stage more
    pub next_held : kept_from p mask leave first ≡ Upto (suc k)
    unfolding among passing
    next_held =
        begun p mask leave first (first_set o set).1
        ∙ held_same p mask (goes p leave) (can p mask (Upto k)) (among first) (calm p mask (among start) k)
        (held_into p mask mask (goes p leave) (can p mask (Upto k)) (among first) (calm p mask (among start) k) (λ u e. e)
        (λ x h. let r = first_holds x (held_within_lem p mask (goes p leave) (among first) x h).1 in
        and_true r.0 r.1)
        (λ x h d. sym (goes_can x (first_holds x (held_within_lem p mask (goes p leave) (among first) x h).1).0) ∙ d))
        (held_into p mask mask (can p mask (Upto k)) (goes p leave) (calm p mask (among start) k) (among first) (λ u e. e)
        (λ x h. let c = (held_within_lem p mask (can p mask (Upto k)) (calm p mask (among start) k) x h).1 in
        rw opened.list
        (filter_in (passing p mask (Upto k)) start x
        (and_left (is_in x start) (settled p x || can p mask (Upto k) x) c)
        (and_right (is_in x start) (settled p x || can p mask (Upto k) x) c)))
        (λ x h d.
        let c = (held_within_lem p mask (can p mask (Upto k)) (calm p mask (among start) k) x h).1 in
        goes_can x (and_left (is_in x start) (settled p x || can p mask (Upto k) x) c) ∙ d))
        ∙ sym (stages_suc p mask (among start) k)

-- what an entry's two numbers are, in a sound stage that a kept state's entries are worked out from
module _ (p : Plant) (mask : ℕ) (leave Kept : List ℕ) (s : Stage) (some_goal : 0 < p.goals) (sound : Sound p mask s)
    (agree : (x : ℕ) → is_in x s.through ≡ true → goes p leave x ≡ s.exits x)
    (lowest : (x : ℕ) → is_in x s.through ≡ true → s.exits x ≡ true → get_or leave x 0 ≡ move_into p mask s.earlier x)
    (x : ℕ) (kept : is_in x Kept ≡ true) (inside : is_in x s.through ≡ true) (for_x : stage_for p mask Kept x ≡ s) where
  pub entry_reached : (i : ℕ) → i < p.goals
      → entry_numbers p mask Kept x i
      ≡ reached p mask leave s.through i x ∷ (reached_by p mask leave s.through i x ∷ [])
  unfolding entry_numbers wait_of listed_move
  entry_reached i hi =
      let r = stage_reached p mask leave s some_goal sound agree lowest i hi x inside in
      ap (λ (b : Bool). pick b (wait_of p mask Kept i x ∷ (listed_move p mask Kept i x ∷ [])) (lost_mark ∷ (lost_mark ∷ []))) kept
      ∙ ap₂ (λ (v w : ℕ). v ∷ (w ∷ []))
      (ap (λ (t : Stage). wait_in p mask t.exits t.through i x) for_x ∙ sym r.0)
      (ap (λ (t : Stage). move_into p mask (landing p mask t i x) x) for_x ∙ sym r.1)

-- a state that is new in a stage
module _ (p : Plant) (mask : ℕ) (start : List ℕ) (some_goal : 0 < p.goals) (settling : p.settles ≡ true) (k x : ℕ)
    (new : is_in x (stages_to (suc k) p mask (among start)) ≡ true)
    (not_old : is_in x (stages_to k p mask (among start)) ≡ false) where
  abbrev Kept : List ℕ
  Kept = kept_within p mask (among start)

  pub new_kept : is_in x Kept ≡ true
  new_kept = rw (kept_staged p mask (among start) settling) (stages_top p mask (among start) some_goal (suc k) x new)

  pub new_before : stages_before p mask Kept x ≡ k
  new_before =
      let most = upto_stage p mask (among start) some_goal x new_kept settling k new in
      let least = no_less k refl in
      omega arith
    where
      no_less : (n : ℕ) → k ≡ n → k ≤ stages_before p mask Kept x
      no_less zero e = omega arith
      no_less (suc n) e =
          elim (dec_lt (stages_before p mask Kept x) k) [
            | yes l ↦
                absurd (not_both
                (stage_upto p mask (among start) some_goal x new_kept settling n (omega arith)) (rw e at not_old))
            | no l ↦ omega arith
          ]

  pub new_stage : stage_for p mask Kept x ≡ stage p mask (among start) k
  unfolding stage_after
  new_stage =
      for_staged p mask (among start) some_goal x new_kept settling
      ∙ ap (λ (n : ℕ). stage_after n p mask Kept) new_before
      ∙ ap₂ (λ (ys zs : List ℕ). record { earlier = ys; exits = can p mask ys; through = zs })
      (stages_kept p mask (among start) some_goal settling k)
      (stages_kept p mask (among start) some_goal settling (suc k))

  -- its row opens with its stage
  pub new_row : one_row p mask Kept x ≡ suc k ∷ joined p.goals 0 (entry_numbers p mask Kept x)
  unfolding one_row stage_numbers stage_of
  new_row =
      ap (λ (b : Bool). pick b (pick (is_in x Kept) (stage_of p mask Kept x) lost_mark ∷ []) []
      ++ joined p.goals 0 (entry_numbers p mask Kept x)) settling
      ∙ ap (λ (b : Bool). pick b (stage_of p mask Kept x) lost_mark ∷ joined p.goals 0 (entry_numbers p mask Kept x))
      new_kept
      ∙ ap (λ (n : ℕ). suc n ∷ joined p.goals 0 (entry_numbers p mask Kept x)) new_before
