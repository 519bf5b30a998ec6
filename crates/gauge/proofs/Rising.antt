-- The machine's test of a table is the order that the request asks for: each band is right by itself, and each lies
-- below the next. Assumes nothing.
use mathlib.Core.Path.{◌≡◌, refl, sym, subst, ◌∙◌}
use mathlib.Core.Logic.{◌↔◌, ⊎_elim}
use mathlib.Core.Bool.{Bool, true, false, ◌&&◌, ◌||◌}
use mathlib.Core.List.{List}
use Prim.Native.Nat.{ℕ, zero, suc, ◌-◌, ◌<◌, ◌≤◌}
use native.Mathlib.Omega.{arith}
use lib.Dec.{eqb, leb}
use lib.ListN.{length, get_or}
use lib.Ieee.{Float}
use borrow.Author.Tests.{ne_eqb, ltb-true, lt-ltb, leb-true, le-leb}
use Rattle.statements.specs.Sets.{every}
use Rattle.sets.proofs.Tests.{same_number, and_iff, leb_iff, eqb_iff, and_left, and_right, and_true}
use Rattle.sets.proofs.Numbers.{every_at, every_all}
use Rattle.gauge.specs.declared.Band.{Band}
use Rattle.gauge.specs.Numbers.{Number, Below}
use Rattle.gauge.specs.Bands.{band_of, follows, band_ok, step_ok, lists_fit, kinds_ok, table_ok}
use Rattle.gauge.specs.Placed.{IsEnd, In, InOrder, Table}
use Rattle.gauge.proofs.Orders.{below_then}
use Rattle.gauge.proofs.Ends.{end_iff, some_iff, follows_below, below_follows}

-- a band that is right by itself
record Right (s : ℕ) (b : Band) : Type 0 where
  pub lower : IsEnd b.lower
  pub upper : IsEnd b.upper
  pub some : (p : Number) × In b p
  pub state : b.state < s

-- the test of a band
right_iff : (s : ℕ) (b : Band) → (band_ok s b ≡ true) ↔ Right s b
unfolding band_ok
right_iff s b =
    let low = end_iff b.lower in
    let high = end_iff b.upper in (
      λ h.
          let a = simp and_iff at h in
          let l = low.0 a.1.0 in
          let u = high.0 a.1.1.0 in
          record {
            lower = l;
            upper = u;
            some = (some_iff b.lower b.upper l u).0 a.1.1.1;
            state = ltb-true b.state s a.0;
          },
      λ r.
          and_true (lt-ltb b.state s r.state) (and_true (low.1 r.lower) (and_true (high.1 r.upper)
          ((some_iff b.lower b.upper r.lower r.upper).1 r.some))),
    )

-- the test of a band after the first
step_next : (band : ℕ → Band) (s i : ℕ) →
    step_ok band s (suc i) ≡ (band_ok s (band (suc i)) && follows (band i).upper (band (suc i)).lower)
unfolding step_ok
step_next band s i =
    let e : suc i - 1 ≡ i = omega arith in
    let f : eqb (suc i) 0 ≡ false = ne_eqb (suc i) 0 (omega arith) in
    rw (f, e) refl

module _ (n : ℕ) (band : ℕ → Band) (s : ℕ) where
  module _ (ok : every n 0 (step_ok band s) ≡ true) where
    -- each band is right
    right : (i : ℕ) → i < n → Right s (band i)
    unfolding step_ok
    right i l =
        (right_iff s (band i)).0
        (and_left (band_ok s (band i)) (eqb i 0 || follows (band (i - 1)).upper (band i).lower)
        (every_at n 0 (step_ok band s) ok i (omega arith) (omega arith)))

    -- each band lies below the next
    next : (i : ℕ) → suc i < n → (p q : Number) → In (band i) p → In (band (suc i)) q → Below p q
    next i l p q h k =
        follows_below (band i).upper (band (suc i)).lower p q (right i (omega arith)).upper (right (suc i) l).lower
        (and_right (band_ok s (band (suc i))) (follows (band i).upper (band (suc i)).lower)
        (sym (step_next band s i) ∙ every_at n 0 (step_ok band s) ok (suc i) (omega arith) (omega arith)))
        h.1 k.0

    -- and so below every later one: some number lies in the band before that
    rise : (i j : ℕ) → i < j → j < n → (p q : Number) → In (band i) p → In (band j) q → Below p q
    rise i zero l m p q h k = absurd (omega arith)
    rise i (suc j) l m p q h k =
        ⊎_elim
        (λ e. next j m p q (subst (λ x. In (band x) p) e h) k)
        (λ d.
        let r = (right j (omega arith)).some in
        let b = next j m r.0 q r.1 k in
        below_then p r.0 q (rise i j (omega arith) (omega arith) p r.0 h r.1) (omega arith))
        (same_number i j)

    -- a table that passes the test is in order
    pub steps_rise : 1 ≤ n → n ≤ 64 → InOrder n band s
    steps_rise some few =
        record {
          some = some;
          few = few;
          lower = λ i l. (right i l).lower;
          upper = λ i l. (right i l).upper;
          not_empty_lem = λ i l. (right i l).some;
          rise = rise;
          states = λ i l. (right i l).state;
        }

  -- a table in order passes it
  pub rise_steps : InOrder n band s → every n 0 (step_ok band s) ≡ true
  unfolding step_ok
  rise_steps r = every_all n 0 (step_ok band s) (λ i l m. step i (omega arith))
    where
      good : (i : ℕ) → i < n → band_ok s (band i) ≡ true
      good i l =
          (right_iff s (band i)).1
          record { lower = r.lower i l; upper = r.upper i l; some = r.not_empty_lem i l; state = r.states i l }

      step : (i : ℕ) → i < n → step_ok band s i ≡ true
      step zero l = and_true (good zero l) refl
      step (suc i) l =
          let p = r.not_empty_lem i (omega arith) in
          let q = r.not_empty_lem (suc i) l in
          let apart = r.rise i (suc i) (omega arith) l in
          step_next band s i ∙ and_true (good (suc i) l)
          (below_follows (band i).lower (band i).upper (band (suc i)).lower (band (suc i)).upper p.0 q.0
          (r.upper i (omega arith)) (r.lower (suc i) l) p.1.0 p.1.1 q.1.0 q.1.1
          (apart p.0 q.0 p.1 q.1)
          (λ x a b c d. let e = apart x x (a, b) (c, d) in omega arith))

-- the test of a table holds exactly where it is in order
pub table_iff : (kinds : List ℕ) (ends : List Float) (states : List ℕ) (s : ℕ) →
    (table_ok kinds ends states s ≡ true) ↔ Table kinds ends states s
unfolding table_ok lists_fit kinds_ok
table_iff kinds ends states s =
    let n = length states in
    let band = band_of kinds ends states in
    let known : ℕ → Bool = λ i. leb (get_or kinds i 0) 1 in (
      λ h.
          let a = simp (and_iff, leb_iff, eqb_iff) at h in
          record {
            kinds_long = a.0.1.1.0;
            ends_long = a.0.1.1.1;
            kinds_known = λ i l.
                leb-true (get_or kinds i 0) 1 (every_at (length kinds) 0 known a.1.0 i (omega arith) (omega arith));
            in_order = steps_rise n band s a.1.1 a.0.0 a.0.1.0;
          },
      λ t.
          simp (and_iff, leb_iff, eqb_iff) (
            (t.in_order.some, (t.in_order.few, (t.kinds_long, t.ends_long))),
            (
              every_all (length kinds) 0 known (λ i l m. le-leb (get_or kinds i 0) 1 (t.kinds_known i (omega arith))),
              rise_steps n band s t.in_order,
            ),
          ),
    )
