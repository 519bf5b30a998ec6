-- A plant that does not settle: no state leaves, and what is left of its one game are the kept states, with the rows of
-- the book. Assumes nothing.
use mathlib.Core.Path.{◌≡◌, refl, sym, ap, ap₂, ◌∙◌, subst}
use mathlib.Core.Bool.{Bool, true, false, ◌&&◌}
use mathlib.Core.List.{List, [], ◌∷◌, ◌++◌}
use Prim.Native.Nat.{ℕ, ◌≤◌, ◌<◌}
use native.Mathlib.Omega.{arith}
use lib.ListN.{get_or, replicate, get_or-replicate}
use borrow.Author.Tests.{le-ltb, eq-eqb}
use Rattle.statements.specs.Sets.{pick, numbers, joined, is_in}
use Rattle.statements.specs.Plants.{Plant}
use Rattle.statements.specs.Kept.{nowhere, forced, kept_within, stage_of, Stage}
use Rattle.statements.specs.Books.{lost_mark}
use Rattle.sets.proofs.Tests.{not_both}
use Rattle.sets.proofs.Members.{Sifted}
use Rattle.sets.proofs.Joined.{joined_same}
use Rattle.kept.proofs.Held.{held_within_lem, held_into, held_same}
use Rattle.kept.proofs.Kept.{kept_plain, kept_sifted, kept_within_lem, for_plain, for_sound}
use Rattle.kept.proofs.Waits.{Sound}
use Rattle.arrays.specs.Lists.{among}
use Rattle.solve.specs.Reached.{goes, reached, reached_by}
use Rattle.solve.specs.Rows.{Columns, kept_from, entry_numbers, stage_numbers, one_row, Rowed, row_of}
use Rattle.solve.specs.Rows.{is_new, Placed}
use Rattle.solve.proofs.RowPlaces.{rowed_placed}
use Rattle.solve.proofs.Starts.{begun}
use Rattle.solve.proofs.StageReach.{forced_same}
use Rattle.solve.proofs.Entries.{has_wait, entries_are}
use Rattle.solve.proofs.StageSteps.{entry_reached}

-- in an array of marks no state has a move
pub no_move : (p : Plant) (leave : List ℕ) → p.moves ≤ 32 → leave ≡ replicate 1024 lost_mark → (x : ℕ) → x < 1024
    → goes p leave x ≡ false
unfolding goes
no_move p leave few e x h =
    let mark : get_or leave x 0 ≡ lost_mark = ap (λ (ys : List ℕ). get_or ys x 0) e ∙ get_or-replicate 1024 x lost_mark 0 h in
    le-ltb (get_or leave x 0) p.moves (omega arith)

module _ (p : Plant) (mask : ℕ) (start : List ℕ) (plain : p.settles ≡ false)
    (set : Sifted (numbers p.states 0) start) (small : p.states ≤ 1024) (few : p.moves ≤ 32) (leave : List ℕ)
    (marks : leave ≡ replicate 1024 lost_mark) where
  abbrev Kept : List ℕ
  Kept = kept_within p mask (among start)

  stays : (x : ℕ) → x < p.states → goes p leave x ≡ false
  stays x h = no_move p leave few marks x (omega arith)

  -- the rounds from the start leave the kept states
  pub plain_kept : kept_from p mask leave start ≡ Kept
  plain_kept =
      begun p mask leave start set
      ∙ held_same p mask (goes p leave) nowhere (among start) (among start)
      (held_into p mask mask (goes p leave) nowhere (among start) (among start) (λ u e. e)
      (λ x h. (held_within_lem p mask (goes p leave) (among start) x h).1)
      (λ x h d. absurd (not_both d (stays x (held_within_lem p mask (goes p leave) (among start) x h).0))))
      (held_into p mask mask nowhere (goes p leave) (among start) (among start) (λ u e. e)
      (λ x h. (held_within_lem p mask nowhere (among start) x h).1) (λ x h d. absurd (not_both d refl)))
      ∙ sym (kept_plain p mask (among start) plain)

  module _ (some_goal : 0 < p.goals) (waits : List ℕ) (columns : Columns p mask leave Kept waits) where
    abbrev whole : Stage
    whole = record { earlier = []; exits = nowhere; through = Kept }

    kept_set : Sifted (numbers p.states 0) Kept
    kept_set = kept_sifted p mask (among start)

    sound : (x : ℕ) → is_in x Kept ≡ true → Sound p mask whole
    sound x m =
        subst (Sound p mask) (for_plain p mask (among start) some_goal x m plain) (for_sound p mask (among start) some_goal x m)

    agree : (y : ℕ) → is_in y Kept ≡ true → goes p leave y ≡ false
    agree y m = stays y (kept_within_lem p mask (among start) y m).0

    -- every goal is forced from a kept state
    full : (i x : ℕ) → i < p.goals → is_in x Kept ≡ true → is_in x (forced p mask (goes p leave) Kept i) ≡ true
    full i x hi m =
        ap (is_in x)
        (forced_same p mask leave whole some_goal (sound x m) agree (λ y k d. absurd (not_both d refl)) i hi)
        ∙ (sound x m).forces x i m hi

    -- a kept state's row is that of the book
    row_is : (number x : ℕ) → is_in x Kept ≡ true → row_of p mask leave waits number x ≡ one_row p mask Kept x
    unfolding row_of one_row stage_numbers
    row_is number x m =
        ap₂ (λ (b : Bool) (ys : List ℕ). pick b (number ∷ []) [] ++ ys) plain
        (entries_are p mask leave Kept kept_set small waits columns some_goal full x m
        ∙ joined_same (λ i. reached p mask leave Kept i x ∷ (reached_by p mask leave Kept i x ∷ []))
        (entry_numbers p mask Kept x) p.goals 0
        (λ i l b.
        sym (entry_reached p mask leave Kept whole some_goal (sound x m) agree (λ y k d. absurd (not_both d refl)) x m m
        (for_plain p mask (among start) some_goal x m plain) i (omega arith))))
        ∙ sym (ap (λ (b : Bool). pick b (pick (is_in x Kept) (stage_of p mask Kept x) lost_mark ∷ []) []
        ++ joined p.goals 0 (entry_numbers p mask Kept x)) plain)

    -- where no state has a stage yet the new ones are all that are kept
    new_is : (stage : List ℕ) → stage ≡ replicate 1024 lost_mark → (x : ℕ) → x < p.states
        → is_new waits stage x ≡ is_in x Kept
    unfolding is_new
    new_is stage e x h =
        let mark : get_or stage x 0 ≡ lost_mark =
        ap (λ (ys : List ℕ). get_or ys x 0) e ∙ get_or-replicate 1024 x lost_mark 0 (omega arith) in
        ap₂ (λ (a b : Bool). a && b)
        (has_wait p mask leave Kept kept_set small waits columns some_goal full x h)
        (eq-eqb (get_or stage x 0) lost_mark mark)
        ∙ alone (is_in x Kept)
      where
        alone : (b : Bool) → (b && true) ≡ b
        alone true = refl
        alone false = refl

    -- so the rows placed are those of the book
    pub plain_rows : (number : ℕ) (stage old out stage' out' : List ℕ) → stage ≡ replicate 1024 lost_mark
        → Rowed p mask Kept [] old out → Placed p mask leave waits number stage out stage' out'
        → Rowed p mask Kept Kept old out'
    unfolding is_in
    plain_rows number stage old out stage' out' e rows placed =
        rowed_placed rows placed
        (λ x h. sym (new_is stage e x h))
        (λ x h n. row_is number x (sym (new_is stage e x h) ∙ n))
