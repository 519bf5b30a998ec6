-- The loop before a reach, turn by turn: the nodes at which it begins line up. Assumes nothing.
use mathlib.Core.Path.{◌≡◌, refl, ap, sym, ◌∙◌}
use mathlib.Core.Logic.{⊎_elim}
use mathlib.Core.Bool.{Bool, true, false, ◌&&◌, ◌||◌}
use mathlib.Core.Bool.{and-true as and_yes}
use mathlib.Core.List.{List, [], ◌∷◌, ◌++◌, append-nil}
use Prim.Native.Nat.{ℕ, suc, ◌+◌, ◌≤◌, ◌<◌}
use native.Mathlib.Omega.{arith}
use native.Mathlib.Numerals.{add-one}
use lib.Dec.{ltb}
use lib.ListN.{length, get_or, take, set, length-append, length-set}
use lib.Seq.{take-suc, take-suc-set, take-set-le, take-length, length-take-le, get_or-set_same, get_or-set_other}
use Rattle.statements.specs.Sets.{bit, bits, pick, is_in, filter, cons_if}
use Rattle.sets.proofs.Tests.{same_number, and_none}
use Rattle.sets.proofs.Bits.{bit_none, bits_at}
use Rattle.sets.proofs.Members.{filter_length, filter_snoc, filter_same}
use Rattle.game.specs.Packed.{goal_of, over_at}
use Rattle.game.specs.Cuts.{offered, Offers}
use Rattle.game.proofs.Counts.{take_in}

-- a place of a list holds a member
pub listed : (list : List ℕ) (k : ℕ) → k < length list → is_in (get_or list k 0) list ≡ true
listed list k h = rw (take-length list) at (take_in (length list) k list h (omega arith))

-- of the first k nodes of a list those that pass a test are in line
pub record Aimed (f : ℕ → Bool) (list old new : List ℕ) (tail k : ℕ) : Type 0 where
  pub within : k ≤ length list
  pub size : length new ≡ length old
  pub number : tail ≡ length (filter f (take k list))
  pub line : take tail new ≡ filter f (take k list)

-- none are read yet
pub aim_none : (f : ℕ → Bool) (list old : List ℕ) → Aimed f list old old 0 0
unfolding filter
aim_none f list old = record { within = omega arith; size = refl; number = refl; line = refl }

module _ (f : ℕ → Bool) (list old new : List ℕ) (tail k : ℕ) (c : Aimed f list old new tail k) where
  -- no more are in line than are read
  pub aim_few : tail ≤ k
  aim_few = omega (arith, c.number, filter_length f (take k list), length-take-le k list c.within)

  -- all are read
  pub aim_end : length list ≤ k → (tail ≡ length (filter f list)) × (take tail new ≡ filter f list)
  aim_end h =
      let all : take k list ≡ list =
      (let e : k ≡ length list = omega (arith, c.within) in rw e (take-length list)) in
      (rw all at c.number, rw all at c.line)

  module _ (more : k < length list) where
    -- what the next node adds
    next : filter f (take (k + 1) list) ≡ filter f (take k list) ++ cons_if (f (get_or list k 0)) (get_or list k 0) []
    next = rw (add-one k, take-suc list k 0 more) (filter_snoc f (take k list) (get_or list k 0))

    -- it is written behind the line, and joins it or does not
    pub aim_yes : f (get_or list k 0) ≡ true → tail < length new
        → Aimed f list old (set new tail (get_or list k 0)) (tail + 1) (k + 1)
    aim_yes t room =
        let both : filter f (take (k + 1) list) ≡ filter f (take k list) ++ (get_or list k 0 ∷ []) = rw t at next in
        record {
          within = omega arith;
          size = length-set new tail (get_or list k 0) ∙ c.size;
          number = omega (
            arith,
            ap length both ∙ length-append (filter f (take k list)) (get_or list k 0 ∷ []),
            c.number,
          );
          line = rw (add-one tail, take-suc-set new tail (get_or list k 0) room, c.line) (sym both);
        }

    pub aim_no : f (get_or list k 0) ≡ false → Aimed f list old (set new tail (get_or list k 0)) tail (k + 1)
    aim_no t =
        let same : filter f (take (k + 1) list) ≡ filter f (take k list) = (rw t at next) ∙ append-nil _ in
        record {
          within = omega arith;
          size = length-set new tail (get_or list k 0) ∙ c.size;
          number = rw same c.number;
          line = rw same (take-set-le tail new tail (get_or list k 0) (omega arith) ∙ c.line);
        }

-- the nodes of a list where a reach to goal i begins: a run is over there, or they are in the goal and marked by 0
unfoldable pub aimed : List ℕ → List ℕ → ℕ → List ℕ → List ℕ
aimed labels member i list =
    filter (λ x. over_at labels x || (goal_of labels i x && ltb (get_or member x 0) 1)) list

-- one node more has what it offers
pub offers_more : (labels member bits : List ℕ) (x v : ℕ) → Offers labels member x bits → x < length bits
    → v ≡ offered (get_or labels x 0) (get_or member x 0) → Offers labels member (x + 1) (set bits x v)
offers_more labels member bits x v so_far room is y h =
    ⊎_elim
    (λ e. rw e (get_or-set_same bits x v 0 room ∙ is))
    (λ d. get_or-set_other bits x y v 0 d ∙ so_far y (omega (arith, h, d)))
    (same_number y x)

-- all bits of 65535 are set
full_bit : (i : ℕ) → i < 8 → bit (suc i) 65535 ≡ true
unfolding bits
full_bit i h = bits_at (λ x. true) 16 (suc i) (omega (arith, h))

-- a node offers something to goal i where a reach to it begins
pub offered_at : (labels member bits : List ℕ) (n i x : ℕ) → Offers labels member n bits → x < n → i < 8
    → goal_of bits i x ≡ (over_at labels x || (goal_of labels i x && ltb (get_or member x 0) 1))
unfolding goal_of over_at offered
offered_at labels member bits n i x offers low goal =
    ap (bit (suc i)) (offers x low)
    ∙ told (bit 15 (get_or labels x 0)) (ltb (get_or member x 0) 1)
  where
    told : (over in_set : Bool) → bit (suc i) (pick over 65535 (pick in_set (get_or labels x 0) 0))
        ≡ (over || (bit (suc i) (get_or labels x 0) && in_set))
    told true in_set = full_bit i goal
    told false true = sym (and_yes (bit (suc i) (get_or labels x 0)))
    told false false = bit_none (suc i) ∙ sym (and_none (bit (suc i) (get_or labels x 0)) false refl)

-- so those of a list that do are its targets
pub targets_are : (labels member bits : List ℕ) (n i : ℕ) (list : List ℕ) → Offers labels member n bits
    → ((x : ℕ) → is_in x list ≡ true → x < n) → i < 8 → filter (goal_of bits i) list ≡ aimed labels member i list
unfolding aimed
targets_are labels member bits n i list offers low goal =
    filter_same (goal_of bits i) (λ x. over_at labels x || (goal_of labels i x && ltb (get_or member x 0) 1)) list
    (λ x m. offered_at labels member bits n i x offers (low x m) goal)
