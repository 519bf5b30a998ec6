-- The pass over a plant's arrows: the moves seen so far, those of them with an arrow that leads elsewhere, and what the
-- arrows left say of the rest. Assumes nothing.
use mathlib.Core.Path.{◌≡◌, refl, sym, ap, ◌∙◌, subst}
use mathlib.Core.Logic.{inl, inr, ⊎_elim}
use mathlib.Core.Bool.{Bool, true, false, ◌&&◌, ◌||◌, not, or-true, or-false}
use mathlib.Core.Bool.{and-true as and_yes}
use mathlib.Core.List.{List, [], ◌∷◌}
use Prim.Native.Nat.{ℕ, zero, suc, ◌+◌, ◌-◌, ◌^◌, ◌≤◌, ◌<◌}
use native.Mathlib.Nat.{add-zero, zero-add}
use native.Mathlib.Omega.{arith}
use native.Mathlib.Decide.{dec_lt}
use lib.Bits.{bit_or, or_lt}
use lib.Dec.{eqb, ltb, leb}
use lib.ListN.{length}
use lib.Pow.{pow_mono, pow-lt}
use borrow.Author.Tests.{ltb-true, ltb-false, le-leb, eq-eqb, ne_eqb}
use Rattle.statements.specs.Sets.{bit, is_in, all_in, bits}
use Rattle.statements.specs.Plants.{word, Plant, plant_of, ends_in, ends, available, goes_into, moves_into}
use Rattle.statements.specs.Books.{less_mask}
use Rattle.sets.proofs.Tests.{decided, same_number, not_both, and_right}
use Rattle.sets.proofs.Bits.{bit_none, bits_at, bits_past, bits_below, same_bits, or_bit, one_bit}
use Rattle.decoding.proofs.Masks.{less_is}
use Rattle.format.specs.declared.arrows.Arrow.{Arrow as ReadArrow}
use Rattle.format.specs.Arrows.{arrow_in, arrows_left}
use Rattle.format.proofs.Stored.{as_arrow, left_more, left_none, ends_nil, ends_match, ends_from, ends_move}
use Rattle.format.proofs.Words.{no_bit}
use Rattle.consult.specs.Checks.{Begins}

-- a plant has a move, and it is in the mask
abbrev pub of_mask : Plant → ℕ → ℕ → Bool
of_mask p mask u = ltb u p.moves && bit u mask

-- a move was seen or has ends left, was not found to lead elsewhere, and its ends left are in a set
unfoldable pub meets : Bool → Bool → List ℕ → List ℕ → Bool
meets seen bad left ys = (seen || leb 1 (length left)) && (not bad && all_in left ys)

-- the next end is seen, and must be in the set; at last none is left
meets_more : (seen bad : Bool) (y : ℕ) (left ys : List ℕ)
    → meets seen bad (y ∷ left) ys ≡ meets true (bad || not (is_in y ys)) left ys
unfolding meets all_in
meets_more seen bad y left ys =
    rw (le-leb 1 (length (y ∷ left)) (omega arith), or-true) (split bad (is_in y ys))
  where
    split : (bad near : Bool) → (not bad && (near && all_in left ys)) ≡ (not (bad || not near) && all_in left ys)
    split true near = refl
    split false true = refl
    split false false = refl

meets_none : (seen bad : Bool) (ys : List ℕ) → meets seen bad [] ys ≡ (seen && not bad)
unfolding meets all_in
meets_none seen bad ys = rw (or-false, and_yes)

-- the arrows before arrow k are tried: a move of the mask goes into the set as far as they and the arrows left say, and
-- no other move was seen
pub record Tried (s : List ℕ) (mask x : ℕ) (ys : List ℕ) (k seen bad : ℕ) : Type 0 where
  pub mask_few : mask < 2 ^ 32
  pub seen_few : seen < 2 ^ 32
  pub serving : (u : ℕ) → of_mask (plant_of s) mask u ≡ true
      → goes_into (plant_of s) mask ys x u ≡ meets (bit u seen) (bit u bad) (ends_in (arrows_left s k) x u) ys
  pub others : (u : ℕ) → of_mask (plant_of s) mask u ≡ false → bit u seen ≡ false

-- a mask with move m added has the others as they were, and m
module _ (m v u : ℕ) where
  added : bit u (bit_or v (2 ^ m)) ≡ (bit u v || eqb u m)
  added = or_bit u v (2 ^ m) ∙ rw (one_bit u m)

  added_other : (m ≡ u → ⊥) → bit u (bit_or v (2 ^ m)) ≡ bit u v
  added_other d = added ∙ rw (ne_eqb u m (λ e. d (sym e)), or-false)

  added_this : m ≡ u → bit u (bit_or v (2 ^ m)) ≡ true
  added_this e = added ∙ rw (eq-eqb u m (sym e), or-true)

-- before the first arrow
tried_start : (s : List ℕ) (mask x : ℕ) (ys : List ℕ) → mask < 2 ^ 32 → Tried s mask x ys 0 0 0
unfolding goes_into available ends arrows_left meets
tried_start s mask x ys few =
    record {
      mask_few = few;
      seen_few = omega arith;
      serving = λ u h. rw (and_right (ltb u (plant_of s).moves) (bit u mask) h, bit_none u);
      others = λ u h. bit_none u;
    }

-- arrow k is there, and was read
pub record Here (s : List ℕ) (mask x : ℕ) (ys : List ℕ) (k seen bad : ℕ) (a : ReadArrow) : Type 0 where
  pub so_far : Tried s mask x ys k seen bad
  pub read : a ≡ arrow_in s k
  pub more : k < word 3 s

module _ {s : List ℕ} {mask x : ℕ} {ys : List ℕ} {k seen bad : ℕ} {a : ReadArrow}
    (h : Here s mask x ys k seen bad a) where
  -- the arrows left
  left_is : arrows_left s k ≡ as_arrow a ∷ arrows_left s (k + 1)
  left_is = rw h.read (left_more s k h.more)

  -- it says nothing of a move to whose ends it does not add
  same_ends : (u : ℕ) → of_mask (plant_of s) mask u ≡ true
      → ends_in (as_arrow a ∷ arrows_left s (k + 1)) x u ≡ ends_in (arrows_left s (k + 1)) x u
      → goes_into (plant_of s) mask ys x u
      ≡ meets (bit u seen) (bit u bad) (ends_in (arrows_left s (k + 1)) x u) ys
  same_ends u in_service_lem e = h.so_far.serving u in_service_lem ∙ rw (left_is, e)

  -- so it changes nothing where it adds no end of a move of the mask
  passed_over : ((u : ℕ) → of_mask (plant_of s) mask u ≡ true
      → ends_in (as_arrow a ∷ arrows_left s (k + 1)) x u ≡ ends_in (arrows_left s (k + 1)) x u)
      → Tried s mask x ys (k + 1) seen bad
  passed_over same =
      record {
        mask_few = h.so_far.mask_few;
        seen_few = h.so_far.seen_few;
        serving = λ u v. same_ends u v (same u v);
        others = h.so_far.others;
      }

  -- it is another state's, or its move is not of the mask
  tried_state : (a.from ≡ x → ⊥) → Tried s mask x ys (k + 1) seen bad
  tried_state d = passed_over (λ u v. ends_from (as_arrow a) (arrows_left s (k + 1)) x u d)

  pub tried_move : of_mask (plant_of s) mask a.action ≡ false → Tried s mask x ys (k + 1) seen bad
  tried_move off =
      passed_over
      (λ u v. ends_move (as_arrow a) (arrows_left s (k + 1)) x u (λ e. not_both v (rw e at off)))

  -- a move of the mask is below 32
  pub tried_few : of_mask (plant_of s) mask a.action ≡ true → a.action < 32
  tried_few on =
      elim (decided (ltb a.action 32)) [
        | inl low ↦ ltb-true a.action 32 low
        | inr high ↦
            absurd
            (not_both (and_right (ltb a.action (plant_of s).moves) (bit a.action mask) on)
            (no_bit 32 a.action mask h.so_far.mask_few (ltb-false a.action 32 high)))
      ]

  module _ (here : a.from ≡ x) (on : of_mask (plant_of s) mask a.action ≡ true) where
    -- its move is seen, and led elsewhere if its end is not in the set
    seen_now : (bad' : ℕ) → ((u : ℕ) → (a.action ≡ u → ⊥) → bit u bad' ≡ bit u bad)
        → bit a.action bad' ≡ (bit a.action bad || not (is_in a.to ys))
        → Tried s mask x ys (k + 1) (bit_or seen (2 ^ a.action)) bad'
    seen_now bad' same this =
        record {
          mask_few = h.so_far.mask_few;
          seen_few = or_lt 32 seen (2 ^ a.action) h.so_far.seen_few (pow-lt (tried_few on));
          serving = λ u v.
              ⊎_elim
              (λ e.
              let one_more = ends_match (as_arrow a) (arrows_left s (k + 1)) here e in
              h.so_far.serving u v
              ∙ rw (left_is, one_more, meets_more, added_this a.action seen u e, ← e, this))
              (λ d.
              same_ends u v (ends_move (as_arrow a) (arrows_left s (k + 1)) x u d)
              ∙ rw (added_other a.action seen u d, same u d))
              (same_number a.action u);
          others = λ u v.
              added_other a.action seen u (λ e. not_both on (rw (← e) at v)) ∙ h.so_far.others u v;
        }

    -- its end is in the set, or is not
    pub tried_in : is_in a.to ys ≡ true → Tried s mask x ys (k + 1) (bit_or seen (2 ^ a.action)) bad
    tried_in e = seen_now bad (λ u d. refl) (rw (e, or-false))

    pub tried_out : is_in a.to ys ≡ false
        → Tried s mask x ys (k + 1) (bit_or seen (2 ^ a.action)) (bit_or bad (2 ^ a.action))
    tried_out e =
        seen_now (bit_or bad (2 ^ a.action)) (added_other a.action bad)
        (added_this a.action bad a.action refl ∙ rw (e, or-true))

-- arrows of other states change nothing
tried_over : {s : List ℕ} {mask x : ℕ} {ys : List ℕ} {seen bad : ℕ} (k n : ℕ) → Tried s mask x ys k seen bad
    → k + n ≤ word 3 s → ((j : ℕ) → k ≤ j → j < k + n → (arrow_in s j).from ≡ x → ⊥)
    → Tried s mask x ys (k + n) seen bad
tried_over k zero t h others = rw (add-zero k) t
tried_over {s} {mask} {x} {ys} {seen} {bad} k (suc n) t h others =
    let next : k + 1 + n ≡ k + suc n = omega arith in
    subst (λ (m : ℕ). Tried s mask x ys m seen bad) next
    (tried_over (k + 1) n
    (tried_state (record { so_far = t; read = refl; more = omega arith }) (others k (omega arith) (omega arith)))
    (omega arith) (λ j low high. others j (omega arith) (omega arith)))

-- so a state's arrows alone are tried, from its first
tried_first : {s : List ℕ} {mask x : ℕ} {ys : List ℕ} {k : ℕ} → mask < 2 ^ 32 → Begins s x k
    → Tried s mask x ys k 0 0
tried_first {s} {mask} {x} {ys} {k} few b =
    subst (λ (m : ℕ). Tried s mask x ys m 0 0) (zero-add k)
    (tried_over 0 k (tried_start s mask x ys few) (omega (arith, b.within))
    (λ j low high e. omega (arith, b.before j (omega arith), e)))

-- past the last arrow: the moves seen that did not lead elsewhere
module _ {s : List ℕ} {mask x : ℕ} {ys : List ℕ} {k seen bad : ℕ} (t : Tried s mask x ys k seen bad)
    (none : word 3 s ≤ k) where
  -- a move of the mask
  end_on : (u : ℕ) → of_mask (plant_of s) mask u ≡ true
      → bit u (less_mask seen bad) ≡ goes_into (plant_of s) mask ys x u
  end_on u v =
      less_is u seen bad
      ∙ sym (t.serving u v ∙ rw (left_none s k none, ends_nil, meets_none))

  -- any other
  end_off : (u : ℕ) → of_mask (plant_of s) mask u ≡ false → bit u (less_mask seen bad) ≡ false
  end_off u v = less_is u seen bad ∙ rw (t.others u v)

  -- bit by bit
  end_bit : (u : ℕ) → bit u (less_mask seen bad) ≡ bit u (moves_into (plant_of s) mask ys x)
  unfolding moves_into goes_into available
  end_bit u =
      let p = plant_of s in
      let whole = bits_at (goes_into p mask ys x) p.moves u in
      elim (decided (ltb u p.moves)) [
        | inl below ↦
            let all = whole (ltb-true u p.moves below) in
            elim (decided (bit u mask)) [
              | inl on ↦ end_on u (rw (below, on)) ∙ sym all
              | inr off ↦ end_off u (rw (below, off)) ∙ sym (all ∙ rw off)
            ]
        | inr past ↦
            end_off u (rw past) ∙ sym (bits_past (goes_into p mask ys x) p.moves 0 u (ltb-false u p.moves past))
      ]

  tried_end : less_mask seen bad ≡ moves_into (plant_of s) mask ys x
  unfolding moves_into less_mask
  tried_end =
      let p = plant_of s in
      let wide : 2 ^ 32 ≤ 2 ^ (32 + p.moves) = pow_mono {i = 32} (omega arith) in
      let high : 2 ^ p.moves ≤ 2 ^ (32 + p.moves) = pow_mono (omega arith) in
      same_bits (32 + p.moves) (less_mask seen bad) (bits p.moves 0 (goes_into p mask ys x))
      (omega (arith, t.seen_few))
      (omega (arith, bits_below (goes_into p mask ys x) p.moves 0))
      (λ u _. end_bit u)

-- the loop over a state's arrows: those from arrow k up to the last are all its own, and those before are tried
pub record Turn (s : List ℕ) (mask x : ℕ) (ys : List ℕ) (last k seen bad : ℕ) : Type 0 where
  pub own : (j : ℕ) → k ≤ j → j < last → (arrow_in s j).from ≡ x
  pub past : Begins s (x + 1) last
  pub order : k ≤ last
  pub so_far : Tried s mask x ys k seen bad

-- before the first of them
pub turn_start : {s : List ℕ} {mask x k last : ℕ} {ys : List ℕ} → mask < 2 ^ 32 → Begins s x k → Begins s (x + 1) last
    → Turn s mask x ys last k 0 0
turn_start {s} {mask} {x} {k} {last} few b e =
    record {
      own = λ j low high.
          omega (arith, b.after j low (omega (arith, e.within)), e.before j high);
      past = e;
      order =
          elim (dec_lt last k) [
            | yes h ↦ absurd (omega (arith, b.before last h, e.after last (omega arith) (omega (arith, b.within))))
            | no h ↦ omega arith
          ];
      so_far = tried_first few b;
    }

module _ {s : List ℕ} {mask x last k seen bad : ℕ} {ys : List ℕ} (t : Turn s mask x ys last k seen bad) where
  -- the next one is there, and the turn is over once it is tried
  pub turn_here : {a : ReadArrow} → k < last → a ≡ arrow_in s k → Here s mask x ys k seen bad a
  turn_here h e = record { so_far = t.so_far; read = e; more = omega (arith, t.past.within) }

  pub turn_own : {a : ReadArrow} → k < last → a ≡ arrow_in s k → a.from ≡ x
  turn_own h e = ap (λ (r : ReadArrow). r.from) e ∙ t.own k (omega arith) h

  pub turn_next : {seen' bad' : ℕ} → k < last → Tried s mask x ys (k + 1) seen' bad'
      → Turn s mask x ys last (k + 1) seen' bad'
  turn_next h next =
      record { own = λ j low high. t.own j (omega arith) high; past = t.past; order = omega arith; so_far = next }

  -- after the last of them: the others are of later states
  pub turn_end : last ≤ k → less_mask seen bad ≡ moves_into (plant_of s) mask ys x
  turn_end h =
      let all : k + (word 3 s - k) ≡ word 3 s = omega (arith, t.past.within, t.order) in
      tried_end
      (tried_over k (word 3 s - k) t.so_far (omega arith)
      (λ j low high e. omega (arith, t.past.after j (omega (arith, t.order)) (omega arith), e)))
      (omega arith)
