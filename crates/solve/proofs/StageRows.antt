-- The stages so far, with one stage more, and at the end: when a stage adds no state all kept states have their rows.
-- Assumes nothing.
use mathlib.Core.Path.{◌≡◌, refl, sym, ap, ap₂, ◌∙◌, subst}
use mathlib.Core.Logic.{⊎_elim}
use mathlib.Core.Bool.{Bool, true, false, ◌&&◌, ◌||◌, not}
use mathlib.Core.List.{List, [], ◌∷◌, ◌++◌}
use Prim.Native.Nat.{ℕ, zero, suc, ◌+◌, ◌≤◌, ◌<◌}
use native.Mathlib.Numerals.{add-one}
use native.Mathlib.Omega.{arith}
use lib.Dec.{eqb, ltb}
use lib.ListN.{length, get_or, take, replicate, length-replicate, get_or-replicate}
use borrow.Author.Tests.{eq-eqb, ne_eqb}
use Rattle.statements.specs.Sets.{pick, numbers, iterate, is_in}
use Rattle.statements.specs.Plants.{Plant, move_into, can}
use Rattle.statements.specs.Kept.{forced, next_stage, stages_to, kept_within}
use Rattle.statements.specs.Books.{lost_mark}
use Rattle.sets.proofs.Tests.{decided, not_both}
use Rattle.sets.proofs.Members.{Sifted}
use Rattle.sets.proofs.Joined.{joined_same}
use Rattle.sets.proofs.Iterate.{sifted_as_long, sifted_longer, sifted_few, sifted_below, iterate_still}
use Rattle.kept.proofs.Stages.{stage, stages_none, stages_sifted, stages_within, stages_step, stages_stop, stage_sound}
use Rattle.kept.proofs.Kept.{kept_staged}
use Rattle.arrays.specs.Lists.{among}
use Rattle.solve.specs.Given.{below}
use Rattle.solve.specs.Reached.{goes, reached, reached_by}
use Rattle.solve.specs.Rows.{Columns, kept_from, entry_numbers, one_row, Rowed, entries_of, own_move, row_of, is_new, Placed}
use Rattle.solve.specs.Stages.{Opened, Staged, Calm}
use Rattle.solve.proofs.RowPlaces.{rowed_placed}
use Rattle.solve.proofs.StageReach.{forced_same}
use Rattle.solve.proofs.Entries.{has_wait, entries_are}
use Rattle.solve.proofs.StageSteps.{below_stages, next_held, entry_reached, new_kept, new_stage, new_row}

pub pick_yes : (b : Bool) (u v : ℕ) → b ≡ true → pick b u v ≡ u
pick_yes b u v e = rw e refl

pub pick_no : (b : Bool) (u v : ℕ) → b ≡ false → pick b u v ≡ v
pick_no b u v e = rw e refl

-- no stage yet
pub staged_none : (p : Plant) (mask : ℕ) (start old out stage : List ℕ) → p.states ≤ 1024
    → stage ≡ replicate 1024 lost_mark → Rowed p mask (kept_within p mask (among start)) [] old out
    → Staged p mask start 0 stage old out
unfolding stages_to iterate
staged_none p mask start old out stage small e rows =
    record {
      has = λ x m. absurd (stages_none p mask (among start) x m);
      not_yet = λ x h m. ap (λ (ys : List ℕ). get_or ys x 0) e ∙ get_or-replicate 1024 x lost_mark 0 (omega arith);
      room = omega (arith, ap length e, length-replicate 1024 lost_mark);
      rows = rows;
    }

pub no_stage : (p : Plant) (mask : ℕ) (start : List ℕ) → 0 ≡ length (stages_to 0 p mask (among start))
unfolding stages_to iterate
no_stage p mask start = refl

-- a row told from columns, in a plant that settles
row_settled : (p : Plant) (mask : ℕ) (leave waits : List ℕ) (number x : ℕ) → p.settles ≡ true
    → row_of p mask leave waits number x ≡ number ∷ entries_of p mask (own_move p mask leave waits x) waits x
unfolding row_of
row_settled p mask leave waits number x e =
    ap (λ (b : Bool). pick b (number ∷ []) [] ++ entries_of p mask (own_move p mask leave waits x) waits x) e

module _ (p : Plant) (mask : ℕ) (start : List ℕ) (some_goal : 0 < p.goals) (settling : p.settles ≡ true)
    (small : p.states ≤ 1024) where
  abbrev Upto : ℕ → List ℕ
  Upto n = stages_to n p mask (among start)

  abbrev Kept : List ℕ
  Kept = kept_within p mask (among start)

  -- one stage more
  module _ (k : ℕ) {stages old out stages' out' leave waits : List ℕ} {number : ℕ}
      (so_far : Staged p mask start k stages old out) (is : number ≡ suc k) (low : number < 65535)
      (leaves : (y : ℕ) → is_in y start ≡ true → get_or leave y 0 ≡ move_into p mask (Upto k) y)
      (columns : Columns p mask leave (Upto (suc k)) waits)
      (placed : Placed p mask leave waits number stages out stages' out') where
    set : Sifted (numbers p.states 0) (Upto (suc k))
    set = stages_sifted p mask (among start) (suc k)

    member : (y : ℕ) → is_in y (Upto (suc k)) ≡ true → is_in y start ≡ true
    unfolding among
    member y m = (stages_within p mask (among start) (suc k) y m).1

    agree : (y : ℕ) → is_in y (Upto (suc k)) ≡ true → goes p leave y ≡ can p mask (Upto k) y
    unfolding goes can
    agree y m = ap (λ (v : ℕ). ltb v p.moves) (leaves y (member y m))

    -- its states force every goal
    full : (i x : ℕ) → i < p.goals → is_in x (Upto (suc k)) ≡ true
        → is_in x (forced p mask (goes p leave) (Upto (suc k)) i) ≡ true
    full i x hi m =
        ap (is_in x)
        (forced_same p mask leave (stage p mask (among start) k) some_goal (stage_sound p mask (among start) some_goal k)
        agree (λ y n d. leaves y (member y n)) i hi)
        ∙ (stage_sound p mask (among start) some_goal k).forces x i m hi

    -- a state is new where it has a wait now and had no stage before
    has_stage : (x : ℕ) → x < p.states → eqb (get_or stages x 0) lost_mark ≡ not (is_in x (Upto k))
    has_stage x h =
        ⊎_elim
        (λ m. ne_eqb (get_or stages x 0) lost_mark (λ e. omega (arith, so_far.has x m)) ∙ sym (ap not m))
        (λ m. eq-eqb (get_or stages x 0) lost_mark (so_far.not_yet x h m) ∙ sym (ap not m))
        (decided (is_in x (Upto k)))

    new_is : (x : ℕ) → x < p.states → is_new waits stages x ≡ (is_in x (Upto (suc k)) && not (is_in x (Upto k)))
    unfolding is_new
    new_is x h =
        ap₂ (λ (a b : Bool). a && b)
        (has_wait p mask leave (Upto (suc k)) set small waits columns some_goal full x h) (has_stage x h)

    inside : (x : ℕ) → is_in x (Upto (suc k)) ≡ true → x < p.states
    inside x m = sifted_below p.states (Upto (suc k)) set x m

    -- the states of the next stage
    more_are : (x : ℕ) → x < p.states → is_in x (Upto (suc k)) ≡ (is_in x (Upto k) || is_new waits stages x)
    more_are x h =
        ⊎_elim
        (λ m.
        stages_step p mask (among start) some_goal k x m
        ∙ sym (ap (λ (b : Bool). b || is_new waits stages x) m))
        (λ m.
        sym (ap₂ (λ (a b : Bool). a || b) m
        (new_is x h ∙ ap (λ (b : Bool). is_in x (Upto (suc k)) && not b) m) ∙ whole (is_in x (Upto (suc k)))))
        (decided (is_in x (Upto k)))
      where
        whole : (b : Bool) → (false || (b && not false)) ≡ b
        whole true = refl
        whole false = refl

    both : (x : ℕ) → x < p.states → is_new waits stages x ≡ true
        → (is_in x (Upto (suc k)) ≡ true) × (is_in x (Upto k) ≡ false)
    both x h e = apart (is_in x (Upto (suc k))) (is_in x (Upto k)) (sym (new_is x h) ∙ e)
      where
        apart : (a b : Bool) → (a && not b) ≡ true → (a ≡ true) × (b ≡ false)
        apart true true q = absurd (not_both q refl)
        apart true false q = (refl, refl)
        apart false b q = absurd (not_both q refl)

    -- a new state's row is that of the book
    row_is : (x : ℕ) → x < p.states → is_new waits stages x ≡ true
        → row_of p mask leave waits number x ≡ one_row p mask Kept x
    row_is x h e =
        let m = both x h e in
        row_settled p mask leave waits number x settling
        ∙ (ap₂ (λ (v : ℕ) (ys : List ℕ). v ∷ ys) is
        (entries_are p mask leave (Upto (suc k)) set small waits columns some_goal full x m.0
        ∙ joined_same (λ i. reached p mask leave (Upto (suc k)) i x ∷ (reached_by p mask leave (Upto (suc k)) i x ∷ []))
        (entry_numbers p mask Kept x) p.goals 0
        (λ i l b.
        sym (entry_reached p mask leave Kept (stage p mask (among start) k) some_goal
        (stage_sound p mask (among start) some_goal k) agree (λ y n d. leaves y (member y n)) x
        (new_kept p mask start some_goal settling k x m.0 m.1) m.0
        (new_stage p mask start some_goal settling k x m.0 m.1) i (omega arith))))
        ∙ sym (new_row p mask start some_goal settling k x m.0 m.1))

    pub staged_more : Staged p mask start (suc k) stages' old out'
    staged_more =
        record {
          has = λ x m.
              let e = placed.stage_is x (inside x m) in
              ⊎_elim
              (λ n.
              let old_one : is_new waits stages x ≡ false =
              new_is x (inside x m) ∙ ap₂ (λ (a b : Bool). a && not b) m n in
              omega (arith, so_far.has x n, e ∙ pick_no (is_new waits stages x) number (get_or stages x 0) old_one))
              (λ n.
              let new_one : is_new waits stages x ≡ true =
              new_is x (inside x m) ∙ ap₂ (λ (a b : Bool). a && not b) m n in
              omega (arith, low, e ∙ pick_yes (is_new waits stages x) number (get_or stages x 0) new_one))
              (decided (is_in x (Upto k)));
          not_yet = λ x h m.
              let out_one : is_new waits stages x ≡ false =
              new_is x h ∙ ap (λ (b : Bool). b && not (is_in x (Upto k))) m in
              let was : is_in x (Upto k) ≡ false =
              ⊎_elim (λ o. absurd (not_both (stages_step p mask (among start) some_goal k x o) m)) (λ o. o)
              (decided (is_in x (Upto k))) in
              placed.stage_is x h
              ∙ (pick_no (is_new waits stages x) number (get_or stages x 0) out_one ∙ so_far.not_yet x h was);
          room = omega (arith, so_far.room, placed.stage_long);
          rows = rowed_placed so_far.rows placed more_are row_is;
        }

  -- the end: a stage that adds no state
  pub upto_few : (k : ℕ) → length (Upto k) ≤ p.states
  upto_few k = sifted_few p.states (Upto k) (stages_sifted p mask (among start) k)

  module _ (k : ℕ) (enough : k ≤ length (Upto k)) (same : length (Upto (k + 1)) ≤ length (Upto k)) where
    still : Upto (suc k) ≡ Upto k
    still =
        let s = stages_sifted p mask (among start) in
        let more = stages_step p mask (among start) some_goal k in
        let longer = sifted_longer (numbers p.states 0) (Upto k) (Upto (suc k)) (s k) (s (suc k)) more in
        sym (sifted_as_long (numbers p.states 0) (Upto k) (Upto (suc k)) (s k) (s (suc k)) more
        (omega (arith, ap (λ (n : ℕ). length (Upto n)) (add-one k))))

    pub all_kept : Kept ≡ Upto k
    unfolding stages_to iterate
    all_kept =
        kept_staged p mask (among start) settling
        ∙ iterate_still k p.states (next_stage p mask (among start)) [] still (omega (arith, upto_few k))

    pub next_kept : Kept ≡ Upto (k + 1)
    next_kept = all_kept ∙ sym still ∙ ap Upto (sym (add-one k))

  in_start : (x : ℕ) → among start x ≡ true → is_in x start ≡ true
  unfolding among
  in_start x w = w

  -- where no state can newly leave the next stage adds none
  pub calm_kept : (k : ℕ) → 0 < k → k ≤ length (Upto k) → {stages old rows : List ℕ}
      → Staged p mask start k stages old rows → Calm p mask start stages → Kept ≡ Upto k
  calm_kept zero some enough so_far calm = absurd (omega arith)
  calm_kept (suc k) some enough {stages} {old} {rows} so_far calm =
      all_kept (suc k) enough (omega (arith, ap length stop, ap (λ (n : ℕ). length (Upto n)) (add-one (suc k))))
    where
      stop : Upto (suc (suc k)) ≡ Upto (suc k)
      stop =
          stages_stop p mask (among start) some_goal k
          (λ x h w s c.
          ⊎_elim (λ m. m)
          (λ m.
          absurd (not_both c
          (ap (λ (ys : List ℕ). can p mask ys x) (sym (below_stages p mask start (suc k) stages old rows so_far))
          ∙ calm.none x (in_start x w) s (so_far.not_yet x h m))))
          (decided (is_in x (Upto (suc k)))))

-- what a stage's functions leave, put together
module _ (p : Plant) (mask : ℕ) (start : List ℕ) (some_goal : 0 < p.goals) (settling : p.settles ≡ true)
    (small : p.states ≤ 1024) (set : Sifted (numbers p.states 0) start) (done : ℕ) (few : done < 65534)
    {stages leave all waits : List ℕ} {count r : ℕ}
    (o : Opened p mask start (below stages 65535 p.states) leave all count)
    (number : r ≡ length (kept_from p mask leave (take count all)))
    (columns : Columns p mask leave (kept_from p mask leave (take count all)) waits)
    (old out : List ℕ) (so_far : Staged p mask start done stages old out) where
  held : kept_from p mask leave (take count all) ≡ stages_to (suc done) p mask (among start)
  held = next_held p mask start done stages old out so_far set leave all count o

  pub advanced_count : r ≡ length (stages_to (done + 1) p mask (among start))
  advanced_count =
      number ∙ (ap length held ∙ ap (λ (n : ℕ). length (stages_to n p mask (among start))) (sym (add-one done)))

  pub advanced : {stages' out' : List ℕ} → Placed p mask leave waits (done + 1) stages out stages' out'
      → Staged p mask start (done + 1) stages' old out'
  advanced {stages'} {out'} placed =
      let theirs = subst (λ (ys : List ℕ). Columns p mask leave ys waits) held columns in
      let leaves = (subst (λ (ys : List ℕ). Opened p mask start ys leave all count)
      (below_stages p mask start done stages old out so_far) o).leaves in
      subst (λ (n : ℕ). Staged p mask start n stages' old out') (sym (add-one done))
      (staged_more p mask start some_goal settling small done so_far (add-one done) (omega arith) leaves theirs placed)
