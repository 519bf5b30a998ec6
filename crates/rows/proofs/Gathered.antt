-- A row's waits and moves joined bit by bit: the waits are below 1,024 just when each is, the moves below 32 likewise,
-- and the set of the moves is within the mask just when each is in it. Assumes nothing.
use mathlib.Core.Path.{◌≡◌, sym, ap, ◌∙◌}
use mathlib.Core.Logic.{inl, inr}
use mathlib.Core.Bool.{Bool, true, ◌&&◌}
use mathlib.Core.List.{List}
use Prim.Native.Nat.{ℕ, ◌+◌, ◌%◌, ◌^◌, ◌<◌}
use native.Mathlib.Omega.{arith}
use native.Mathlib.Nat.{mod-eq_of_lt}
use lib.Dec.{eqb, ltb, leb}
use lib.ListN.{drop}
use lib.Bits.{bit_or, or_zero_l, or_lt, or_add_and, and_le_l, and_le_r}
use borrow.Author.Tests.{leb-true, le-leb, eqb-true, eq-eqb, ltb-true, ltb-false}
use Rattle.statements.specs.Sets.{bit, every}
use Rattle.statements.specs.Plants.{word}
use Rattle.statements.specs.Books.{mask_ok}
use Rattle.sets.proofs.Tests.{decided, not_both, and_true, and_left, and_right, and_iff}
use Rattle.sets.proofs.Tests.{or_left, or_right, or_cases, same_test}
use Rattle.sets.proofs.Bits.{all_bits, or_bit, one_bit}
use Rattle.format.proofs.Words.{no_bit, word_further}
use Rattle.rows.specs.Checks.{held_at}
use Rattle.sets.proofs.Numbers.{every_more}

-- both of two numbers are below a power of 2 when they are joined
low_both : (k a b : ℕ) → bit_or a b < 2 ^ k → (a < 2 ^ k) × (b < 2 ^ k)
low_both k a b h =
    (omega (arith, or_add_and a b, and_le_r a b), omega (arith, or_add_and a b, and_le_l a b))

-- a set is within a mask when the two joined are the mask: each of its moves is in the mask
set_within : (set mask : ℕ) → bit_or set mask ≡ mask → (u : ℕ) → bit u set ≡ true → bit u mask ≡ true
set_within set mask e u h = ap (bit u) (sym e) ∙ or_bit u set mask ∙ or_left (bit u set) (bit u mask) h

within_set : (set mask : ℕ) → ((u : ℕ) → bit u set ≡ true → bit u mask ≡ true) → bit_or set mask ≡ mask
within_set set mask h =
    all_bits (bit_or set mask) mask
    (λ u.
    or_bit u set mask
    ∙ elim (decided (bit u set)) [
      | inl e ↦ rw (e, h u e)
      | inr e ↦ rw e
    ])

-- what the numbers joined say of the entries passed
unfoldable pub gathered : ℕ → ℕ → ℕ → ℕ → Bool
gathered mask waits moves set = leb waits 1023 && leb moves 31 && eqb (bit_or set mask) mask

pub record Gathered (mask waits moves set : ℕ) : Type 0 where
  pub waits_low : waits < 2 ^ 10
  pub moves_low : moves < 2 ^ 5
  pub in_mask : bit_or set mask ≡ mask

told : {mask waits moves set : ℕ} → gathered mask waits moves set ≡ true → Gathered mask waits moves set
unfolding gathered
told {mask} {waits} {moves} {set} h =
    let tests = simp and_iff at h in
    record {
      waits_low = omega (arith, leb-true);
      moves_low = omega (arith, leb-true);
      in_mask = eqb-true _ _ tests.1;
    }

tell : {mask waits moves set : ℕ} → Gathered mask waits moves set → gathered mask waits moves set ≡ true
unfolding gathered
tell {mask} {waits} {moves} {set} g =
    and_true
    (and_true (le-leb waits 1023 (omega (arith, g.waits_low))) (le-leb moves 31 (omega (arith, g.moves_low))))
    (eq-eqb (bit_or set mask) mask g.in_mask)

-- before the first entry
pub gathered_none : (mask : ℕ) → gathered mask 0 0 0 ≡ true
gathered_none mask =
    tell (record { waits_low = omega arith; moves_low = omega arith; in_mask = or_zero_l mask })

-- an entry's wait and move are joined to what was gathered
module _ (mask waits moves set wait move : ℕ) (few : mask < 2 ^ 32) where
  abbrev Joined : Bool
  Joined = gathered mask (bit_or waits wait) (bit_or moves move) (bit_or set (2 ^ (move % 32)))

  abbrev Entry : Bool
  Entry = leb wait 1023 && bit move mask

  joined_in : Joined ≡ true → gathered mask waits moves set && Entry ≡ true
  joined_in h =
      let g = told h in
      let w = low_both 10 waits wait g.waits_low in
      let m = low_both 5 moves move g.moves_low in
      let same : move % 32 ≡ move = mod-eq_of_lt m.1 in
      let each = set_within (bit_or set (2 ^ (move % 32))) mask g.in_mask in
      and_true
      (tell
      (record {
        waits_low = w.0;
        moves_low = m.0;
        in_mask =
            within_set set mask (λ u e. each u (or_bit u set (2 ^ (move % 32)) ∙ or_left (bit u set) _ e));
      }))
      (and_true (le-leb wait 1023 (omega (arith, w.1)))
      (each move
      (or_bit move set (2 ^ (move % 32))
      ∙ or_right (bit move set) _ (one_bit move (move % 32) ∙ eq-eqb _ _ (sym same)))))

  in_joined : gathered mask waits moves set && Entry ≡ true → Joined ≡ true
  in_joined h =
      let g = told (and_left (gathered mask waits moves set) Entry h) in
      let entry = and_right (gathered mask waits moves set) Entry h in
      let on = and_right (leb wait 1023) (bit move mask) entry in
      let low : move < 32 =
      elim (decided (ltb move 32)) [
        | inl e ↦ ltb-true move 32 e
        | inr e ↦ absurd (not_both on (no_bit 32 move mask few (ltb-false move 32 e)))
      ] in
      let same : move % 32 ≡ move = mod-eq_of_lt low in
      tell
      (record {
        waits_low =
            or_lt 10 waits wait g.waits_low
            (omega (arith, leb-true wait 1023 (and_left (leb wait 1023) (bit move mask) entry)));
        moves_low = or_lt 5 moves move g.moves_low low;
        in_mask =
            within_set (bit_or set (2 ^ (move % 32))) mask
            (λ u e.
            elim (or_cases (bit u set) (bit u (2 ^ (move % 32))) (sym (or_bit u set (2 ^ (move % 32))) ∙ e)) [
              | inl old ↦ set_within set mask g.in_mask u old
              | inr new ↦
                  ap (λ (k : ℕ). bit k mask) (eqb-true u (move % 32) (sym (one_bit u (move % 32)) ∙ new) ∙ same) ∙ on
            ]);
      })

  -- so it passes with them just when it passes too
  pub gathered_more : Joined ≡ gathered mask waits moves set && Entry
  gathered_more = same_test Joined (gathered mask waits moves set && Entry) joined_in in_joined

-- in a mask of so many moves every move is one of them
entry_held : (b : List ℕ) (u mask at wait move : ℕ) → mask_ok u mask ≡ true
    → wait ≡ word 0 (drop at b) → move ≡ word 0 (drop (at + 2) b)
    → held_at b u mask at ≡ (leb wait 1023 && bit move mask)
unfolding held_at mask_ok
entry_held b u mask at wait move ok ew em =
    let known = em ∙ sym (word_further b at 1) in
    rw (← ew, ← known)
    (ap (λ (t : Bool). leb wait 1023 && t)
    (same_test (ltb move u && bit move mask) (bit move mask) (and_right (ltb move u) (bit move mask))
    (λ on. and_true (below on) on)))
  where
    below : bit move mask ≡ true → ltb move u ≡ true
    below on =
        elim (decided (ltb move u)) [
          | inl e ↦ e
          | inr e ↦ absurd (not_both on (no_bit u move mask (ltb-true mask (2 ^ u) ok) (ltb-false move u e)))
        ]

-- one more entry is read and joined: what is gathered tells whether the entries so far are held
pub gathered_next : (b : List ℕ) (u mask i waits moves set : ℕ) {wait move one at : ℕ} (place : ℕ → ℕ)
    → mask < 2 ^ 32 → mask_ok u mask ≡ true
    → gathered mask waits moves set ≡ every i 0 (λ k. held_at b u mask (place k)) → at ≡ place i
    → wait ≡ word 0 (drop at b) → move ≡ word 0 (drop (at + 2) b) → one ≡ 2 ^ (move % 32)
    → gathered mask (bit_or waits wait) (bit_or moves move) (bit_or set one)
    ≡ every (i + 1) 0 (λ k. held_at b u mask (place k))
gathered_next b u mask i waits moves set {wait} {move} {one} {at} place few ok so e ew em eo =
    let test : ℕ → Bool = λ k. held_at b u mask (place k) in
    ap (λ (k : ℕ). gathered mask (bit_or waits wait) (bit_or moves move) (bit_or set k)) eo
    ∙ gathered_more mask waits moves set wait move few
    ∙ ap (λ (t : Bool). t && (leb wait 1023 && bit move mask)) so
    ∙ ap (λ (t : Bool). every i 0 test && t) (sym (ap (held_at b u mask) (sym e) ∙ entry_held b u mask at wait move ok ew em))
    ∙ sym (every_more test i)
