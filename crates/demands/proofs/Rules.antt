-- The rule of an entry, read on a book's rows: its states are the closer ones, and the book's move is the lowest that
-- meets it. Assumes nothing.
use mathlib.Core.Path.{◌≡◌, refl, sym, ap, ◌∙◌}
use mathlib.Core.Logic.{◌↔◌, inl, inr, ⊎_elim}
use mathlib.Core.Bool.{Bool, true, false, ◌&&◌, ◌||◌}
use mathlib.Core.List.{List}
use Prim.Native.Nat.{ℕ, ◌<◌}
use native.Mathlib.Omega.{arith}
use native.Mathlib.Decide.{dec_lt}
use lib.Dec.{eqb, ltb}
use borrow.Author.Tests.{eqb-true, ltb-true, lt-ltb, eq-eqb}
use Rattle.statements.specs.Sets.{numbers, is_in}
use Rattle.statements.specs.Plants.{Plant, goes_into, move_into, can}
use Rattle.statements.specs.Kept.{kept_within, Stage, stage_for, landing, listed_move}
use Rattle.statements.specs.Books.{book_mask, wait_at, move_at, stage_at, nearer_in}
use Rattle.statements.specs.Books.{earlier_in, onward_in, rule_in, book_within}
use Rattle.statements.specs.Demands.{Meets}
use Rattle.sets.proofs.Tests.{decided, not_both, and_true, and_left, and_right, or_left, or_right, or_cases}
use Rattle.sets.proofs.Members.{Sifted, sifted_sub, sifted_same, filter_holds, filter_in}
use Rattle.kept.proofs.Moves.{into_available, into_ends, into_all}
use Rattle.kept.proofs.Kept.{kept_sifted, earlier_sifted}
use Rattle.kept.proofs.Kept.{exits_iff, for_plain}
use Rattle.kept.proofs.Waits.{landing_move}
use Rattle.winning.proofs.Following.{Closer}
use Rattle.demands.proofs.Plants.{Given, some_goal}
use Rattle.demands.proofs.Rows.{IsKept, CanLeave, book_mask_lem, book_sort, book_keeps, one_stage, listed_move_lem, sound}
use Rattle.demands.proofs.Rows.{here, book_earlier, closer_landing, landing_closer, landing_sifted}

module _ {p : Plant} {mask : ℕ} {within : ℕ → Bool} (given : Given p mask within) where
  module _ (x : ℕ) (hx : IsKept p mask within x) where
    abbrev S : Stage
    S = stage_for p mask (kept_within p mask within) x

    abbrev B : List ℕ
    B = book_within p mask within

    abbrev Next : ℕ → ℕ → Type 0
    Next i y = Closer (IsKept p mask within) (CanLeave p mask within) B x i y

    module _ (i : ℕ) (hi : i < p.goals) where
      -- the rule read on the book's rows: the states of earlier stages
      earlier_in_lem : (y : ℕ) → (is_in y (earlier_in B x) ≡ true) ↔ (IsKept p mask within y × (stage_at B y < stage_at B x))
      unfolding earlier_in
      earlier_in_lem y =
          rw (book_keeps given) (
            λ m.
                let r = filter_holds (λ z. ltb (stage_at B z) (stage_at B x)) (kept_within p mask within) y m in
                (r.0, ltb-true _ _ r.1),
            λ q.
                filter_in (λ z. ltb (stage_at B z) (stage_at B x)) (kept_within p mask within) y q.0
                (lt-ltb _ _ q.1),
          )

      earlier_in_sifted : Sifted (numbers p.states 0) (earlier_in B x)
      unfolding earlier_in
      earlier_in_sifted =
          rw (book_keeps given)
          (sifted_sub (λ z. ltb (stage_at B z) (stage_at B x)) (numbers p.states 0) (kept_within p mask within)
          (kept_sifted p mask within))

      earlier_is : earlier_in B x ≡ S.earlier
      earlier_is =
          sifted_same (numbers p.states 0) (earlier_in B x) S.earlier earlier_in_sifted
          (earlier_sifted p mask within (some_goal given) x hx)
          (λ y m. (book_earlier given x hx y).1 ((earlier_in_lem y).0 m)) (λ y m. (earlier_in_lem y).1 ((book_earlier given x hx y).0 m))

      -- that of a state that can leave, of another one, and where the plant does not settle
      rule_leave : p.settles ≡ true → S.exits x ≡ true → rule_in p B x i ≡ earlier_in B x
      unfolding rule_in
      rule_leave e l =
          let can_go : can p (book_mask B) (earlier_in B x) x ≡ true = rw (book_mask_lem given, earlier_is) ((sound given x hx).leads x l) in
          rw (book_sort given ∙ e, can_go) refl

      rule_onward : p.settles ≡ true → S.exits x ≡ false → rule_in p B x i ≡ onward_in B x i
      unfolding rule_in
      rule_onward e l =
          let stays : can p (book_mask B) (earlier_in B x) x ≡ false =
          rw (book_mask_lem given, earlier_is)
          (⊎_elim (λ c. absurd (not_both ((exits_iff p mask within (some_goal given) x hx x).1 c) l)) (λ c. c)
          (decided (can p mask S.earlier x))) in
          rw (book_sort given ∙ e, stays) refl

      rule_plain : p.settles ≡ false → rule_in p B x i ≡ nearer_in B x i
      unfolding rule_in
      rule_plain e = rw (book_sort given ∙ e) refl

      plain_stays : p.settles ≡ false → S.exits x ≡ false
      plain_stays e = rw (for_plain p mask within (some_goal given) x hx e) refl

      -- the members of the rule's lists
      onward_in_lem : S.exits x ≡ false → (y : ℕ) → (is_in y (onward_in B x i) ≡ true) ↔ Next i y
      unfolding onward_in
      onward_in_lem stays y =
          let w = wait_at B x i in
          let late : ℕ → Bool = λ z. eqb (stage_at B z) (stage_at B x) && (eqb w 0 || ltb (wait_at B z i) w) in
          rw (book_keeps given) (
            λ m.
                let r = filter_holds (λ z. ltb (stage_at B z) (stage_at B x) || late z) (kept_within p mask within) y m in
                ⊎_elim
                (λ l. let low = ltb-true _ _ l in
                record {
                  stays = r.0;
                  no_later = omega (arith, low);
                  leaving = λ t. low;
                  nearing = λ t. inr low;
                })
                (λ l.
                let near : Bool = eqb w 0 || ltb (wait_at B y i) w in
                let same : stage_at B y ≡ stage_at B x =
                eqb-true _ _ (and_left (eqb (stage_at B y) (stage_at B x)) near l) in
                record {
                  stays = r.0;
                  no_later = omega (arith, same);
                  leaving = λ t. absurd (not_both t stays);
                  nearing = λ t.
                      ⊎_elim (λ z. absurd (omega (arith, t, eqb-true w 0 z))) (λ z. inl (ltb-true _ _ z))
                      (or_cases (eqb w 0) (ltb (wait_at B y i) w) (and_right (eqb (stage_at B y) (stage_at B x)) near l));
                })
                (or_cases (ltb (stage_at B y) (stage_at B x)) (late y) r.1),
            λ c.
                filter_in (λ z. ltb (stage_at B z) (stage_at B x) || late z) (kept_within p mask within) y c.stays
                (elim (dec_lt (stage_at B y) (stage_at B x)) [
                  | yes low ↦ or_left (ltb (stage_at B y) (stage_at B x)) (late y) (lt-ltb _ _ low)
                  | no low ↦
                      or_right (ltb (stage_at B y) (stage_at B x)) (late y)
                      (and_true (eq-eqb (stage_at B y) (stage_at B x) (omega (arith, c.no_later, low)))
                      (elim (dec_lt 0 w) [
                        | no z ↦ or_left (eqb w 0) (ltb (wait_at B y i) w) (eq-eqb w 0 (omega arith))
                        | yes z ↦
                            or_right (eqb w 0) (ltb (wait_at B y i) w)
                            (lt-ltb (wait_at B y i) w
                            (⊎_elim (λ t. t) (λ t. absurd (omega (arith, t, low))) (c.nearing z)))
                      ]))
                ]),
          )

      nearer_is_in : p.settles ≡ false → (y : ℕ) → (is_in y (nearer_in B x i) ≡ true) ↔ Next i y
      unfolding nearer_in
      nearer_is_in e y =
          let w = wait_at B x i in
          let one : (z : ℕ) → stage_at B z ≡ 1 = one_stage given e in
          rw (book_keeps given) (
            λ m.
                let r = filter_holds (λ z. eqb w 0 || ltb (wait_at B z i) w) (kept_within p mask within) y m in
                record {
                  stays = r.0;
                  no_later = omega (arith, one x, one y);
                  leaving = λ t. absurd (not_both t (plain_stays e));
                  nearing = λ t.
                      ⊎_elim (λ z. absurd (omega (arith, t, eqb-true w 0 z))) (λ z. inl (ltb-true _ _ z))
                      (or_cases (eqb w 0) (ltb (wait_at B y i) w) r.1);
                },
            λ c.
                filter_in (λ z. eqb w 0 || ltb (wait_at B z i) w) (kept_within p mask within) y c.stays
                (elim (dec_lt 0 w) [
                  | no z ↦ or_left (eqb w 0) (ltb (wait_at B y i) w) (eq-eqb w 0 (omega arith))
                  | yes z ↦
                      or_right (eqb w 0) (ltb (wait_at B y i) w)
                      (lt-ltb (wait_at B y i) w
                      (⊎_elim (λ t. t) (λ t. absurd (omega (arith, t, one x, one y))) (c.nearing z)))
                ]),
          )

      -- they are the closer states
      pub rule_members : (y : ℕ) → (is_in y (rule_in p B x i) ≡ true) ↔ Next i y
      rule_members y =
          ⊎_elim
          (λ e.
          ⊎_elim
          (λ l. rw (rule_leave e l) (
            λ m.
                let q = (earlier_in_lem y).0 m in
                record { stays = q.0; no_later = omega (arith, q.1); leaving = λ t. q.1; nearing = λ t. inr q.1 },
            λ c. (earlier_in_lem y).1 (c.stays, c.leaving l),
          ))
          (λ l. rw (rule_onward e l) (onward_in_lem l y))
          (decided (S.exits x)))
          (λ e. rw (rule_plain e) (nearer_is_in e y))
          (decided p.settles)

      rule_sifted : Sifted (numbers p.states 0) (rule_in p B x i)
      unfolding onward_in nearer_in
      rule_sifted =
          let all = numbers p.states 0 in
          let kept = kept_sifted p mask within in
          let w = wait_at B x i in
          ⊎_elim
          (λ e.
          ⊎_elim (λ l. rw (rule_leave e l) earlier_in_sifted)
          (λ l. rw (rule_onward e l, book_keeps given)
          (sifted_sub
          (λ y. ltb (stage_at B y) (stage_at B x) ||
          (eqb (stage_at B y) (stage_at B x) && (eqb w 0 || ltb (wait_at B y i) w)))
          all (kept_within p mask within) kept))
          (decided (S.exits x)))
          (λ e. rw (rule_plain e, book_keeps given)
          (sifted_sub (λ y. eqb w 0 || ltb (wait_at B y i) w) all (kept_within p mask within) kept))
          (decided p.settles)

      rule_is : rule_in p B x i ≡ landing p mask S i x
      rule_is =
          sifted_same (numbers p.states 0) (rule_in p B x i) (landing p mask S i x) rule_sifted (landing_sifted given x hx i hi)
          (λ y m. closer_landing given x hx i hi y ((rule_members y).0 m)) (λ y m. (rule_members y).1 (landing_closer given x hx i hi y m))

      -- a move meets the rule of an entry exactly when it goes into them
      pub rule_iff : (u : ℕ) → (goes_into p mask (rule_in p B x i) x u ≡ true) ↔ Meets p mask x (Next i) u
      rule_iff u =
          let near = rule_in p B x i in (
            λ h. record {
              is_available = into_available p mask near x u h;
              ends_well = λ y m. (rule_members y).0 (into_ends p mask near x u h y m);
            },
            λ h. into_all p mask near x u h.is_available (λ y m. (rule_members y).1 (h.ends_well y m)),
          )

      -- the book's move of a kept state is the lowest that does
      pub book_move : move_at B x i ≡ move_into p mask (rule_in p B x i) x
      unfolding listed_move
      book_move = listed_move_lem given x i hx hi ∙ ap (λ ys. move_into p mask ys x) (sym rule_is)

      -- and so goes into them
      pub book_into : goes_into p mask (rule_in p B x i) x (move_at B x i) ≡ true
      unfolding listed_move
      book_into =
          rw (listed_move_lem given x i hx hi, rule_is) (landing_move p mask S (some_goal given) (sound given x hx) i hi x (here given x hx)).1
