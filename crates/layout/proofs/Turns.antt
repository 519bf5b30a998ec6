-- One turn of the pass: what is laid out with one arrow more, by whether its move is in service and its group was begun
-- before. Assumes nothing.
use mathlib.Core.Path.{◌≡◌, refl, sym, ap, ap₂, ◌∙◌}
use mathlib.Core.Logic.{⊎_elim}
use mathlib.Core.Bool.{Bool, true, false}
use mathlib.Core.List.{List, [], ◌∷◌, ◌++◌, append_assoc}
use Prim.Native.Nat.{ℕ, ◌+◌, ◌-◌, ◌*◌, ◌≤◌, ◌<◌}
use native.Mathlib.Nat.{add-zero, sub-zero}
use native.Mathlib.Numerals.{add-one}
use native.Mathlib.Omega.{arith}
use lib.Dec.{leb}
use lib.ListN.{length, get_or, take, set, replicate, length-append}
use lib.Seq.{length-take-le, take-set-le, take-set-lt, take-suc-set, get_or-take}
use borrow.Author.Tests.{leb-true, leb-false}
use Rattle.statements.specs.Sets.{pick, bit}
use Rattle.statements.specs.Plants.{Arrow, Plant, ends_in}
use Rattle.sets.proofs.Tests.{decided}
use Rattle.layout.specs.Layout.{group_states, group_moves, group_ends, group_sizes, group_counts, total, starts}
use Rattle.layout.specs.Layout.{numbered}
use Rattle.layout.specs.Passing.{Laid}
use Rattle.layout.proofs.Lengths.{total_more, starts_more, numbered_more, replicate_more}
use Rattle.layout.proofs.Parts.{having, count_few}
use Rattle.layout.proofs.Growing.{Comes, ahead, all_off, all_opens, joins_old, joins_new}
use Rattle.layout.proofs.Growing.{counts_off, counts_opens, counts_joins}

-- a number put past those that count, and counted or not
put_more : (xs : List ℕ) (i v : ℕ) {ys : List ℕ} → i < length xs → take i xs ≡ ys
    → take (i + 1) (set xs i v) ≡ ys ++ (v ∷ [])
put_more xs i v h e = rw add-one (take-suc-set xs i v h ∙ ap (λ (l : List ℕ). l ++ (v ∷ [])) e)

put_same : (xs : List ℕ) (i v : ℕ) {ys : List ℕ} → take i xs ≡ ys → take i (set xs i v) ≡ ys
put_same xs i v e = take-set-le i xs i v (omega arith) ∙ e

-- a choice between the same
pick_same : (b : Bool) (n : ℕ) → pick b n n ≡ n
pick_same true n = refl
pick_same false n = refl

-- there is room for one more of each
pub record Spare (g n : ℕ) (states moves begins ends owners : List ℕ) : Type 0 where
  pub states_long : g < length states
  pub moves_long : g < length moves
  pub begins_long : g < length begins
  pub ends_long : n < length ends
  pub owners_long : n < length owners

module _ {p : Plant} {xs : List Arrow} {least : ℕ} {a : Arrow} (t : Comes p xs least a) {mask g n : ℕ}
    {first states moves begins ends owners : List ℕ}
    (l : Laid (having p xs) mask g n first states moves begins ends owners) where
  -- the groups of the arrow's state are counted
  counted : (m : ℕ) → group_counts (having p (xs ++ (a ∷ []))) mask
      ≡ set (group_counts (having p xs) mask) a.from (get_or (group_counts (having p xs) mask) a.from 0 + m)
      → take p.states (set first a.from (get_or first a.from 0 + m))
      ≡ group_counts (having p (xs ++ (a ∷ []))) mask
  counted m e =
      let here : get_or first a.from 0 ≡ get_or (group_counts (having p xs) mask) a.from 0 =
      sym (get_or-take p.states first a.from 0 t.from_below)
      ∙ ap (λ (k : List ℕ). get_or k a.from 0) l.counts_are in
      take-set-lt p.states first a.from (get_or first a.from 0 + m) t.from_below
      ∙ ap₂ (λ (k : List ℕ) (i : ℕ). set k a.from (i + m)) l.counts_are here
      ∙ sym e

  longer : length (xs ++ (a ∷ [])) ≡ length xs + 1
  longer = length-append xs (a ∷ [])

  -- an arrow whose move is out of service: nothing counts that is written
  turn_off : bit a.move mask ≡ false → (i j k e o : ℕ)
      → Laid (having p (xs ++ (a ∷ []))) mask g n (set first a.from (get_or first a.from 0 + 0)) (set states g i)
      (set moves g j) (set begins g k) (set ends n e) (set owners n o)
  unfolding group_states group_moves group_ends group_sizes
  turn_off off i j k e o =
      let same = sym (all_off t mask (λ x u ys. length ys ∷ []) off) in
      record {
        groups_are = l.groups_are ∙ ap length same;
        arrows_are = l.arrows_are ∙ ap total same;
        groups_few = omega (arith, l.groups_few, longer);
        arrows_few = omega (arith, l.arrows_few, longer);
        states_are = put_same states g i (l.states_are ∙ sym (all_off t mask (λ x u ys. x ∷ []) off));
        moves_are = put_same moves g j (l.moves_are ∙ sym (all_off t mask (λ x u ys. u ∷ []) off));
        begins_are = put_same begins g k (l.begins_are ∙ ap (starts 0) same);
        ends_are = put_same ends n e (l.ends_are ∙ sym (all_off t mask (λ x u ys. ys) off));
        owners_are = put_same owners n o (l.owners_are ∙ ap (numbered 0) same);
        counts_are = counted 0 (counts_off t mask off);
      }

  module _ (room : Spare g n states moves begins ends owners) (on : bit a.move mask ≡ true) where
    -- the first arrow of a group: a group more, and its first end
    turn_opens : ends_in xs a.from a.move ≡ []
        → Laid (having p (xs ++ (a ∷ []))) mask (g + 1) (n + 1) (set first a.from (get_or first a.from 0 + 1))
        (set states g a.from) (set moves g a.move) (set begins g n) (set ends n a.to) (set owners n g)
    unfolding group_states group_moves group_ends group_sizes
    turn_opens none =
        let old = group_sizes (having p xs) mask in
        let sizes = all_opens t mask (λ x u ys. length ys ∷ []) on none in
        let place : 0 + total old ≡ n = omega (arith, l.arrows_are) in
        let number : 0 + length old ≡ g = omega (arith, l.groups_are) in
        record {
          groups_are = omega (arith, l.groups_are, ap length sizes, length-append old (1 ∷ []));
          arrows_are = omega (arith, l.arrows_are, ap total sizes, total_more old 1);
          groups_few = omega (arith, l.groups_few, longer);
          arrows_few = omega (arith, l.arrows_few, longer);
          states_are =
              put_more states g a.from room.states_long l.states_are
              ∙ sym (all_opens t mask (λ x u ys. x ∷ []) on none);
          moves_are =
              put_more moves g a.move room.moves_long l.moves_are
              ∙ sym (all_opens t mask (λ x u ys. u ∷ []) on none);
          begins_are =
              put_more begins g n room.begins_long l.begins_are
              ∙ sym (ap (starts 0) sizes ∙ starts_more 0 old 1
              ∙ ap (λ (i : ℕ). starts 0 old ++ (i ∷ [])) place);
          ends_are =
              put_more ends n a.to room.ends_long l.ends_are
              ∙ sym (all_opens t mask (λ x u ys. ys) on none);
          owners_are =
              put_more owners n g room.owners_long l.owners_are
              ∙ sym (ap (numbered 0) sizes ∙ numbered_more 0 old 1
              ∙ ap (λ (i : ℕ). numbered 0 old ++ (i ∷ [])) number);
          counts_are = counted 1 (counts_opens t mask on none);
        }

    -- a further arrow of the last group: one end more
    turn_joins : 0 < length (ends_in xs a.from a.move) → (i j k : ℕ)
        → Laid (having p (xs ++ (a ∷ []))) mask g (n + 1) (set first a.from (get_or first a.from 0 + 0))
        (set states g i) (set moves g j) (set begins g k) (set ends n a.to) (set owners n (g - 1))
    unfolding group_states group_moves group_ends group_sizes
    turn_joins some i j k =
        let ys = ends_in xs a.from a.move in
        let count = length ys in
        let more : length (ys ++ (a.to ∷ [])) ≡ count + 1 = length-append ys (a.to ∷ []) in
        let size : ℕ → ℕ → List ℕ → List ℕ = λ x u zs. length zs ∷ [] in
        let before = ahead t mask size in
        let old = joins_old t mask size on some in
        let new = joins_new t mask size on ∙ ap (λ (m : ℕ). before ++ (m ∷ [])) more in
        let group : g - 1 ≡ 0 + length before =
        omega (arith, l.groups_are, ap length old, length-append before (count ∷ [])) in
        record {
          groups_are =
              omega (
                arith,
                l.groups_are,
                ap length old,
                ap length new,
                length-append before (count ∷ []),
                length-append before ((count + 1) ∷ []),
              );
          arrows_are =
              omega (
                arith,
                l.arrows_are,
                ap total old,
                ap total new,
                total_more before count,
                total_more before (count + 1),
              );
          groups_few = omega (arith, l.groups_few, longer);
          arrows_few = omega (arith, l.arrows_few, longer);
          states_are =
              put_same states g i
              (l.states_are
              ∙ joins_old t mask (λ x u zs. x ∷ []) on some
              ∙ sym (joins_new t mask (λ x u zs. x ∷ []) on));
          moves_are =
              put_same moves g j
              (l.moves_are
              ∙ joins_old t mask (λ x u zs. u ∷ []) on some
              ∙ sym (joins_new t mask (λ x u zs. u ∷ []) on));
          begins_are =
              put_same begins g k
              (l.begins_are
              ∙ ap (starts 0) old ∙ starts_more 0 before count
              ∙ sym (ap (starts 0) new ∙ starts_more 0 before (count + 1)));
          ends_are =
              put_more ends n a.to room.ends_long (l.ends_are ∙ joins_old t mask (λ x u zs. zs) on some)
              ∙ append_assoc (ahead t mask (λ x u zs. zs)) ys (a.to ∷ [])
              ∙ sym (joins_new t mask (λ x u zs. zs) on);
          owners_are =
              put_more owners n (g - 1) room.owners_long
              (l.owners_are ∙ ap (numbered 0) old ∙ numbered_more 0 before count)
              ∙ append_assoc (numbered 0 before) (replicate count (0 + length before)) ((g - 1) ∷ [])
              ∙ ap (λ (m : ℕ). numbered 0 before ++ (replicate count (0 + length before) ++ (m ∷ []))) group
              ∙ ap (λ (r : List ℕ). numbered 0 before ++ r) (sym (replicate_more count (0 + length before)))
              ∙ sym (ap (numbered 0) new ∙ numbered_more 0 before (count + 1));
          counts_are = counted 0 (counts_joins t mask on some);
        }

  -- a turn, by the numbers that it adds
  pub laid_turn : Spare g n states moves begins ends owners
      → (65536 * (65536 * a.from) + 65536 * a.move < least → 0 < length (ends_in xs a.from a.move))
      → (on new : ℕ) → on ≡ pick (bit a.move mask) 1 0
      → new ≡ pick (leb least (65536 * (65536 * a.from) + 65536 * a.move)) on 0
      → Laid (having p (xs ++ (a ∷ []))) mask (g + new) (n + on) (set first a.from (get_or first a.from 0 + new))
      (set states g a.from) (set moves g a.move) (set begins g n) (set ends n a.to)
      (set owners n (g - (on - new)))
  laid_turn room here on new eo en =
      let key = 65536 * (65536 * a.from) + 65536 * a.move in
      ⊎_elim
      (λ serves.
      let o : on ≡ 1 = eo ∙ ap (λ (b : Bool). pick b 1 0) serves in
      ⊎_elim
      (λ fresh.
      let m : new ≡ 1 = en ∙ ap₂ (λ (b : Bool) (i : ℕ). pick b i 0) fresh o in
      rw (o, m, sub-zero) (turn_opens room serves (t.past a.from a.move (leb-true least key fresh))))
      (λ old.
      let m : new ≡ 0 = en ∙ ap (λ (b : Bool). pick b on 0) old in
      rw (o, m, add-zero g)
      (turn_joins room serves (here (omega (arith, leb-false least key old))) a.from a.move n))
      (decided (leb least key)))
      (λ off.
      let o : on ≡ 0 = eo ∙ ap (λ (b : Bool). pick b 1 0) off in
      let m : new ≡ 0 = en ∙ ap (λ (i : ℕ). pick (leb least key) i 0) o ∙ pick_same (leb least key) 0 in
      rw (o, m, add-zero g, add-zero n) (turn_off off a.from a.move n a.to (g - (0 - 0))))
      (decided (bit a.move mask))

  -- the numbers that it adds are small, and a group that was begun before has a number
  pub turn_small : (65536 * (65536 * a.from) + 65536 * a.move < least → 0 < length (ends_in xs a.from a.move))
      → (on new : ℕ) → on ≡ pick (bit a.move mask) 1 0
      → new ≡ pick (leb least (65536 * (65536 * a.from) + 65536 * a.move)) on 0
      → (new ≤ on) × (on ≤ 1) × (on - new ≤ g)
  unfolding group_sizes
  turn_small here on new eo en =
      let key = 65536 * (65536 * a.from) + 65536 * a.move in
      ⊎_elim
      (λ serves.
      let o : on ≡ 1 = eo ∙ ap (λ (b : Bool). pick b 1 0) serves in
      ⊎_elim
      (λ fresh.
      let m : new ≡ on = en ∙ ap (λ (b : Bool). pick b on 0) fresh in
      omega arith)
      (λ old.
      let size : ℕ → ℕ → List ℕ → List ℕ = λ x u zs. length zs ∷ [] in
      let some = here (omega (arith, leb-false least key old)) in
      let count = length (ends_in xs a.from a.move) in
      let m : new ≡ 0 = en ∙ ap (λ (b : Bool). pick b on 0) old in
      omega (
        arith,
        l.groups_are,
        ap length (joins_old t mask size serves some),
        length-append (ahead t mask size) (count ∷ []),
      ))
      (decided (leb least key)))
      (λ off.
      let o : on ≡ 0 = eo ∙ ap (λ (b : Bool). pick b 1 0) off in
      let m : new ≡ 0 = en ∙ ap (λ (i : ℕ). pick (leb least key) i 0) o ∙ pick_same (leb least key) 0 in
      omega arith)
      (decided (bit a.move mask))

  -- a state has no more groups than there are so far
  pub turn_count : g < length moves → get_or first a.from 0 ≤ g
  turn_count long =
      let here = get_or-take p.states first a.from 0 t.from_below in
      let same = ap (λ (k : List ℕ). get_or k a.from 0) l.counts_are in
      omega (
        arith,
        here,
        same,
        count_few (having p xs) mask a.from t.from_below,
        ap length l.moves_are,
        length-take-le g moves (omega arith),
      )
