-- The groups' counters and the waits: one position more, one node reached, and other words for the positions passed.
-- Assumes nothing.
use mathlib.Core.Path.{◌≡◌, refl, ap, sym, ◌∙◌}
use mathlib.Core.Bool.{Bool, true, false, ◌&&◌, not}
use mathlib.Core.List.{List}
use mathlib.Core.Logic.{⊎_elim}
use Prim.Native.Nat.{ℕ, suc, ◌+◌, ◌-◌, ◌<◌, ◌≤◌}
use native.Mathlib.Omega.{arith}
use borrow.Author.Tests.{eqb-true, eq-eqb, ne_eqb, le-ltb}
use lib.Dec.{eqb, ltb}
use lib.ListN.{length, get_or, set}
use lib.Seq.{get_or-set_same, get_or-set_other}
use Rattle.statements.specs.Sets.{numbers, filter}
use Rattle.sets.proofs.Tests.{same_number, not_both}
use Rattle.game.specs.Walked.{nodes, node_at}
use Rattle.game.specs.Steps.{Groups, Has, Within, waiting}
use Rattle.game.proofs.Counts.{and_off, and_on, count_same, count_flip, count_zero, count_none}

-- a position of the group that is not waiting is passed
passed_of : (a b : Bool) → a ≡ true → (a && not b) ≡ false → b ≡ true
passed_of true true h e = refl
passed_of true false h e = absurd (not_both refl e)
passed_of false b h e = absurd (not_both h refl)

module _ (starts rev gs member w₀ : List ℕ) where
  -- the same positions passed, in other words, and a larger wait under way
  pub wider_groups : (done done' : ℕ → Bool) (v v' : ℕ) (cnt w : List ℕ) → v ≤ v'
      → ((j : ℕ) → j < length rev → done j ≡ done' j)
      → Groups starts rev gs member w₀ done v cnt w → Groups starts rev gs member w₀ done' v' cnt w
  wider_groups done done' v v' cnt w l e c =
      record {
        counted = λ g h.
            c.counted g h
            ∙ ap length (count_same (length rev) (waiting rev done g) (waiting rev done' g) (λ z k. rw (e z k)));
        passes = λ j h p. omega (arith, c.passes j h (e j h ∙ p));
        start = c.start;
        rest = c.rest;
        inside = c.inside;
        sound = c.sound;
        complete = λ g k h m a p. c.complete g k h m a (λ j i x. e j i ∙ p j i x);
      }

  -- the same waits before the walk, as far as they tell
  pub other_start : (done : ℕ → Bool) (v : ℕ) (cnt w w₁ : List ℕ)
      → ((y : ℕ) → y < nodes starts → ltb (get_or w y 0) 1 ≡ ltb (get_or w₁ y 0) 1)
      → ((y : ℕ) → nodes starts ≤ y → get_or w y 0 ≡ get_or w₁ y 0)
      → Groups starts rev gs member w₀ done v cnt w → Groups starts rev gs member w₁ done v cnt w
  other_start done v cnt w w₁ low high c =
      record {
        counted = c.counted;
        passes = c.passes;
        start = low;
        rest = high;
        inside = c.inside;
        sound = c.sound;
        complete = c.complete;
      }

  module _ (done : ℕ → Bool) (v : ℕ) (cnt w : List ℕ) (c : Groups starts rev gs member w₀ done v cnt w) where
    module _ (jj g : ℕ) (h : jj < length rev) (e : get_or rev jj 0 ≡ g) (gl : g < length gs) (np : done jj ≡ false) where
      here : waiting rev done g jj ≡ true
      here = rw (e, np, eq-eqb g g refl)

      -- where the counter is down to the position under way the others are passed
      pub last_one : get_or cnt g 0 ≡ 1 → (j : ℕ) → j < length rev → get_or rev j 0 ≡ g → (j ≡ jj → ⊥) → done j ≡ true
      last_one one j k f d =
          let off : ℕ → Bool = λ (z : ℕ). waiting rev done g z && not (eqb z jj) in
          let fewer =
          count_flip (length rev) jj (waiting rev done g) off h here
          (rw (eq-eqb jj jj refl) (and_off (waiting rev done g jj)))
          (λ z i x. rw (ne_eqb z jj x) (and_on (waiting rev done g z))) in
          let none = count_zero (length rev) off (omega (arith, c.counted g gl)) j k in
          passed_of (eqb (get_or rev j 0) g) (done j) (eq-eqb _ _ f)
          (sym (and_on (waiting rev done g j)) ∙ (rw (ne_eqb j jj d) at none))

      module _ (done' : ℕ → Bool) (yp : done' jj ≡ true)
          (same : (j : ℕ) → j < length rev → (j ≡ jj → ⊥) → done' j ≡ done j) where
        one_fewer : length (filter (waiting rev done g) (numbers (length rev) 0))
            ≡ suc (length (filter (waiting rev done' g) (numbers (length rev) 0)))
        one_fewer =
            count_flip (length rev) jj (waiting rev done g) (waiting rev done' g) h here
            (rw yp (and_off (eqb (get_or rev jj 0) g))) (λ z i x. rw (same z i x))

        -- its counter is not 0
        pub counter_some : 0 < get_or cnt g 0
        counter_some = omega (arith, c.counted g gl, one_fewer)

        other_count : (k : ℕ) → (k ≡ g → ⊥) → (z : ℕ) → z < length rev → waiting rev done k z ≡ waiting rev done' k z
        other_count k q z l =
            ⊎_elim
            (λ x.
            let d : eqb (get_or rev z 0) k ≡ false =
            ne_eqb _ _ (λ y. q (sym y ∙ (ap (λ (i : ℕ). get_or rev i 0) x ∙ e))) in
            rw d)
            (λ x. rw (same z l x))
            (same_number z jj)

        none_left : ((j : ℕ) → j < length rev → get_or rev j 0 ≡ g → done' j ≡ true) → get_or cnt g 0 - 1 ≡ 0
        none_left f =
            let none = count_none (length rev) (waiting rev done' g) (λ z l. gone z l (eqb (get_or rev z 0) g) refl) in
            omega (arith, none, one_fewer, c.counted g gl)
          where
            gone : (z : ℕ) → z < length rev → (b : Bool) → eqb (get_or rev z 0) g ≡ b → (b && not (done' z)) ≡ false
            gone z l true q = rw (f z l (eqb-true _ _ q))
            gone z l false q = refl

        counts : g < length cnt → (k : ℕ) → k < length gs
            → get_or (set cnt g (get_or cnt g 0 - 1)) k 0 ≡ length (filter (waiting rev done' k) (numbers (length rev) 0))
        counts gc k l =
            ⊎_elim
            (λ q.
            let mine : get_or cnt g 0 - 1 ≡ length (filter (waiting rev done' g) (numbers (length rev) 0)) =
            omega (arith, c.counted g gl, one_fewer) in
            rw q (get_or-set_same cnt g (get_or cnt g 0 - 1) 0 gc ∙ mine))
            (λ q.
            get_or-set_other cnt g k (get_or cnt g 0 - 1) 0 q
            ∙ (c.counted k l
            ∙ ap length (count_same (length rev) (waiting rev done k) (waiting rev done' k) (other_count k q))))
            (same_number k g)

        -- one position passed
        pub tick : g < length cnt → get_or w (node_at starts jj) 0 ≡ v
            → (get_or cnt g 0 - 1 ≡ 0 → get_or member (get_or gs g 0) 0 < 1 → get_or w (get_or gs g 0) 0 ≤ v + 1)
            → Groups starts rev gs member w₀ done' v (set cnt g (get_or cnt g 0 - 1)) w
        tick gc wv hit =
            record {
              counted = counts gc;
              passes = λ j k f.
                  ⊎_elim
                  (λ q. omega (arith, wv, ap (λ (z : ℕ). get_or w (node_at starts z) 0) q))
                  (λ q. c.passes j k (sym (same j k q) ∙ f))
                  (same_number j jj);
              start = c.start;
              rest = c.rest;
              inside = c.inside;
              sound = c.sound;
              complete = λ k b l kk a f low.
                  ⊎_elim
                  (λ q.
                  let none = none_left (λ j i t. f j i (t ∙ sym q)) in
                  let reach = hit none (rw q at kk) in
                  let there = ap (λ (z : ℕ). get_or w (get_or gs z 0) 0) q in
                  omega (arith, reach, there, wv, low jj h (e ∙ sym q)))
                  (λ q.
                  c.complete k b l kk a
                  (λ j i t. sym (same j i (λ x. q (sym t ∙ (ap (λ (z : ℕ). get_or rev z 0) x ∙ e)))) ∙ f j i t) low)
                  (same_number k g);
            }

    -- a node reached by a group all of whose ends have waits
    module _ (f g : ℕ) (h : f < nodes starts) (hl : f < length w) (e : get_or w f 0 ≡ 65535) (small : v < 65534)
        (kf : get_or member f 0 < 1) (gl : g < length gs) (gf : get_or gs g 0 ≡ f) (has : Has rev g)
        (all : Within starts rev w g v) where
      low : (y : ℕ) → get_or w y 0 < 65535 → get_or (set w f (v + 1)) y 0 ≡ get_or w y 0
      low y k =
          get_or-set_other w f y (v + 1) 0 (λ q. omega (arith, e, ap (λ (z : ℕ). get_or w z 0) q))

      at_f : (y : ℕ) → y ≡ f → get_or (set w f (v + 1)) y 0 ≡ v + 1
      at_f y q = ap (λ (z : ℕ). get_or (set w f (v + 1)) z 0) q ∙ get_or-set_same w f (v + 1) 0 hl

      was : (y : ℕ) → y ≡ f → get_or w y 0 ≡ 65535
      was y q = ap (λ (z : ℕ). get_or w z 0) q ∙ e

      off_f : (y : ℕ) → (y ≡ f → ⊥) → get_or (set w f (v + 1)) y 0 ≡ get_or w y 0
      off_f y q = get_or-set_other w f y (v + 1) 0 q

      -- ends with a wait of at most k had it before, for k below the mark
      still : (b k : ℕ) → k < 65535 → Within starts rev w b k → Within starts rev (set w f (v + 1)) b k
      still b k s p j i t = omega (arith, p j i t, low (node_at starts j) (omega (arith, p j i t)))

      raised_start : (y : ℕ) → y < nodes starts → ltb (get_or (set w f (v + 1)) y 0) 1 ≡ ltb (get_or w₀ y 0) 1
      raised_start y k =
          ⊎_elim
          (λ q.
          let marked : ltb (get_or w y 0) 1 ≡ false = le-ltb (get_or w y 0) 1 (omega (arith, was y q)) in
          le-ltb (get_or (set w f (v + 1)) y 0) 1 (omega (arith, at_f y q)) ∙ (sym marked ∙ c.start y k))
          (λ q. rw (off_f y q) (c.start y k))
          (same_number y f)

      raised_sound : (y k : ℕ) → y < nodes starts → get_or (set w f (v + 1)) y 0 ≡ suc k → suc k < 65535
          → (b : ℕ) × ((b < length gs)
          × ((get_or gs b 0 ≡ y) × (Has rev b × Within starts rev (set w f (v + 1)) b k)))
      raised_sound y k l q s =
          ⊎_elim
          (λ x.
          let same : v ≡ k = omega (arith, q, at_f y x) in
          (g, (gl, (gf ∙ sym x, (has, still g k (omega arith) (rw same at all))))))
          (λ x.
          let o = c.sound y k l (sym (off_f y x) ∙ q) s in
          (o.0, (o.1.0, (o.1.1.0, (o.1.1.1.0, still o.0 k (omega arith) o.1.1.1.1)))))
          (same_number y f)

      -- the positions passed end in nodes with waits from before
      earlier : (b k : ℕ) → ((j : ℕ) → j < length rev → get_or rev j 0 ≡ b → done j ≡ true)
          → Within starts rev (set w f (v + 1)) b k → Within starts rev w b k
      earlier b k p q j i t =
          let d = c.passes j i (p j i t) in
          omega (arith, q j i t, low (node_at starts j) (omega arith))

      pub raise : Groups starts rev gs member w₀ done v cnt (set w f (v + 1))
      raise =
          record {
            counted = c.counted;
            passes = λ j k p.
                let d = c.passes j k p in
                omega (arith, low (node_at starts j) (omega arith));
            start = raised_start;
            rest = λ y k. off_f y (λ q. omega arith) ∙ c.rest y k;
            inside = λ y k p l.
                ⊎_elim
                (λ q. rw q kf)
                (λ q. c.inside y k (omega (arith, off_f y q)) (omega (arith, off_f y q)))
                (same_number y f);
            sound = raised_sound;
            complete = λ b k l kk a p q.
                let o = c.complete b k l kk a p (earlier b k p q) in
                ⊎_elim
                (λ x. omega (arith, o, at_f (get_or gs b 0) x, was (get_or gs b 0) x))
                (λ x. omega (arith, o, off_f (get_or gs b 0) x))
                (same_number (get_or gs b 0) f);
          }
