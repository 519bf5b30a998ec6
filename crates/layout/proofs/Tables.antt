-- The parts of the table that a plant is laid out in, while numbers are stored in it. Assumes nothing.
use mathlib.Core.Path.{◌≡◌, sym, ap, ◌∙◌}
use mathlib.Core.List.{List}
use Prim.Native.Nat.{ℕ, ◌+◌, ◌-◌, ◌*◌, ◌≤◌, ◌<◌}
use native.Mathlib.Nat.{zero-add}
use native.Mathlib.Omega.{arith}
use lib.ListN.{length, get_or, take, drop, set, length-drop}
use lib.Seq.{length-take-le, take-set-le, take-set-lt, drop-set-lt, drop-set-add, get_or-take}
use Rattle.layout.specs.Passing.{part, first_part, begins_part, moves_part, ends_part, owners_part}

module _ (a n : ℕ) (t : List ℕ) where
  -- a part within the table
  part_length : a + n ≤ length t → length (part a n t) ≡ n
  unfolding part
  part_length h = length-take-le n (drop a t) (omega (arith, length-drop a t))

  -- a number stored in it, before it, and past it
  part_set : (i v : ℕ) → i < n → part a n (set t (a + i) v) ≡ set (part a n t) i v
  unfolding part
  part_set i v h = ap (take n) (drop-set-add a t i v) ∙ take-set-lt n (drop a t) i v h

  part_low : (i v : ℕ) → i < a → part a n (set t i v) ≡ part a n t
  unfolding part
  part_low i v h = ap (take n) (drop-set-lt a t i v h)

  part_high : (i v : ℕ) → a + n ≤ i → part a n (set t i v) ≡ part a n t
  unfolding part
  part_high i v h =
      let place : a + (i - a) ≡ i = omega arith in
      ap (λ (j : ℕ). take n (drop a (set t j v))) (sym place)
      ∙ ap (take n) (drop-set-add a t (i - a) v)
      ∙ take-set-le n (drop a t) (i - a) v (omega arith)

-- how long the parts are
module _ (h : ℕ) (t : List ℕ) (long : 1026 + 4 * h ≤ length t) where
  pub begins_size : length (begins_part h t) ≡ h + 1
  unfolding begins_part
  begins_size = part_length 1025 (h + 1) t (omega arith)

  pub moves_size : length (moves_part h t) ≡ h
  unfolding moves_part
  moves_size = part_length (1026 + h) h t (omega arith)

  pub ends_size : length (ends_part h t) ≡ h
  unfolding ends_part
  ends_size = part_length (1026 + 2 * h) h t (omega arith)

  pub owners_size : length (owners_part h t) ≡ h
  unfolding owners_part
  owners_size = part_length (1026 + 3 * h) h t (omega arith)

-- a state's number stands at its place in the table
pub first_at : (t : List ℕ) (x : ℕ) → x < 1025 → get_or (first_part t) x 0 ≡ get_or t x 0
unfolding first_part part
first_at t x h = get_or-take 1025 t x 0 h

-- the stores of a turn: a state's number, the move and the begin of group g, and end n with its group
module _ (h g n : ℕ) (t : List ℕ) (x sum action to owner : ℕ) where
  abbrev Counted : List ℕ
  Counted = set t x sum

  abbrev Moved : List ℕ
  Moved = set Counted (1026 + h + g) action

  abbrev Begun : List ℕ
  Begun = set Moved (1025 + g) n

  abbrev Ended : List ℕ
  Ended = set Begun (1026 + 2 * h + n) to

  abbrev pub Stored : List ℕ
  Stored = set Ended (1026 + 3 * h + n) owner

  module _ (group_low : g < h) (end_low : n < h) (state_low : x < 1025) where
    -- each is in a part of its own
    pub first_stored : first_part Stored ≡ set (first_part t) x sum
    unfolding first_part
    first_stored =
        let here = part_set 0 1025 t x sum state_low in
        part_high 0 1025 Ended (1026 + 3 * h + n) owner (omega arith)
        ∙ part_high 0 1025 Begun (1026 + 2 * h + n) to (omega arith)
        ∙ part_high 0 1025 Moved (1025 + g) n (omega arith)
        ∙ part_high 0 1025 Counted (1026 + h + g) action (omega arith)
        ∙ rw zero-add at here

    pub begins_stored : begins_part h Stored ≡ set (begins_part h t) g n
    unfolding begins_part
    begins_stored =
        part_high 1025 (h + 1) Ended (1026 + 3 * h + n) owner (omega arith)
        ∙ part_high 1025 (h + 1) Begun (1026 + 2 * h + n) to (omega arith)
        ∙ part_set 1025 (h + 1) Moved g n (omega arith)
        ∙ ap (λ (l : List ℕ). set l g n)
        (part_high 1025 (h + 1) Counted (1026 + h + g) action (omega arith)
        ∙ part_low 1025 (h + 1) t x sum state_low)

    pub moves_stored : moves_part h Stored ≡ set (moves_part h t) g action
    unfolding moves_part
    moves_stored =
        part_high (1026 + h) h Ended (1026 + 3 * h + n) owner (omega arith)
        ∙ part_high (1026 + h) h Begun (1026 + 2 * h + n) to (omega arith)
        ∙ part_low (1026 + h) h Moved (1025 + g) n (omega arith)
        ∙ part_set (1026 + h) h Counted g action group_low
        ∙ ap (λ (l : List ℕ). set l g action) (part_low (1026 + h) h t x sum (omega arith))

    pub ends_stored : ends_part h Stored ≡ set (ends_part h t) n to
    unfolding ends_part
    ends_stored =
        part_high (1026 + 2 * h) h Ended (1026 + 3 * h + n) owner (omega arith)
        ∙ part_set (1026 + 2 * h) h Begun n to end_low
        ∙ ap (λ (l : List ℕ). set l n to)
        (part_low (1026 + 2 * h) h Moved (1025 + g) n (omega arith)
        ∙ part_low (1026 + 2 * h) h Counted (1026 + h + g) action (omega arith)
        ∙ part_low (1026 + 2 * h) h t x sum (omega arith))

    pub owners_stored : owners_part h Stored ≡ set (owners_part h t) n owner
    unfolding owners_part
    owners_stored =
        part_set (1026 + 3 * h) h Ended n owner end_low
        ∙ ap (λ (l : List ℕ). set l n owner)
        (part_low (1026 + 3 * h) h Begun (1026 + 2 * h + n) to (omega arith)
        ∙ part_low (1026 + 3 * h) h Moved (1025 + g) n (omega arith)
        ∙ part_low (1026 + 3 * h) h Counted (1026 + h + g) action (omega arith)
        ∙ part_low (1026 + 3 * h) h t x sum (omega arith))
