-- The pass over a plant's arrows: what is known once the first k are passed, and what the next one adds.
-- Assumes nothing.
use mathlib.Core.Path.{◌≡◌, refl, sym, ap, ◌∙◌}
use mathlib.Core.Logic.{⊎_elim}
use mathlib.Core.Bool.{Bool, true, false, ◌&&◌, and_assoc}
use mathlib.Core.List.{List, [], ◌∷◌, ◌++◌, append_assoc, append-nil}
use Prim.Native.Nat.{ℕ, ◌+◌, ◌-◌, ◌*◌, ◌≤◌, ◌<◌}
use native.Mathlib.Nat.{add_assoc}
use native.Mathlib.Numerals.{add-one}
use native.Mathlib.Omega.{arith}
use lib.Dec.{ltb, leb}
use lib.ListN.{length, get_or, take, set, replicate, length-append}
use borrow.Author.Tests.{ltb-true, leb-true}
use Rattle.statements.specs.Sets.{pick, bit}
use Rattle.statements.specs.Plants.{word, Arrow, plant_of, rank, arrows_ok, ends_in}
use Rattle.sets.proofs.Tests.{decided, and_iff}
use Rattle.format.specs.declared.arrows.Arrow.{Arrow as ReadArrow}
use Rattle.format.specs.Arrows.{arrow_in, arrows_left}
use Rattle.format.specs.Checks.{arrows_fine, least_after}
use Rattle.format.proofs.Words.{word_here}
use Rattle.format.proofs.Header.{PlantHead, plant_states, plant_moves}
use Rattle.format.proofs.Stored.{as_arrow, left_more, left_none, ends_nil}
use Rattle.layout.specs.Layout.{group_states, group_moves, group_ends, group_sizes, total, starts, numbered}
use Rattle.layout.specs.Passing.{Laid}
use Rattle.layout.proofs.Parts.{having, all_none, counts_none}
use Rattle.layout.proofs.Growing.{Comes, ends_own, ends_other}
use Rattle.layout.proofs.Turns.{Spare, laid_turn, turn_small, turn_count}

-- the number that arrows of state x and move u are ranked from
abbrev pub key : ℕ → ℕ → ℕ
key x u = 65536 * (65536 * x) + 65536 * u

-- the first k arrows are passed: none was refused, all are ranked below `least`, and they are laid out
pub record Passed (s : List ℕ) (mask k least g n : ℕ) (first states moves begins ends owners : List ℕ) : Type 0 where
  pub arrows : List Arrow
  pub many : length arrows ≡ k
  pub all : (plant_of s).arrows ≡ arrows ++ arrows_left s k
  pub checked : arrows_fine (plant_of s) ≡ arrows_ok (plant_of s).states (plant_of s).moves least (arrows_left s k)
  pub past : (x u : ℕ) → least ≤ key x u → ends_in arrows x u ≡ []
  pub here : (x u : ℕ) → u < 65536 → key x u < least → least ≤ key x u + 65536 → 0 < length (ends_in arrows x u)
  pub laid : Laid (having (plant_of s) arrows) mask g n first states moves begins ends owners

-- at first none is passed
pub pass_start : (s : List ℕ) (mask : ℕ) (first states moves begins ends owners : List ℕ)
    → take (word 0 s) first ≡ replicate (word 0 s) 0 → Passed s mask 0 0 0 0 first states moves begins ends owners
unfolding arrows_left group_states group_moves group_ends group_sizes total starts numbered
pass_start s mask first states moves begins ends owners clear =
    let p = plant_of s in
    let none = all_none p mask in
    let zeros : take p.states first ≡ replicate p.states 0 = rw (plant_states s) clear in
    let sizes = none (λ x u ys. length ys ∷ []) in
    record {
      arrows = [];
      many = refl;
      all = refl;
      checked = refl;
      past = λ x u h. ends_nil x u;
      here = λ x u low h m. absurd (omega arith);
      laid = record {
        groups_are = sym (ap length sizes);
        arrows_are = sym (ap total sizes);
        groups_few = omega arith;
        arrows_few = omega arith;
        states_are = sym (none (λ x u ys. x ∷ []));
        moves_are = sym (none (λ x u ys. u ∷ []));
        begins_are = sym (ap (starts 0) sizes);
        ends_are = sym (none (λ x u ys. ys));
        owners_are = sym (ap (numbered 0) sizes);
        counts_are = zeros ∙ sym (counts_none p mask);
      };
    }

-- what the check of the next arrow tells
pub record Good (states moves least next : ℕ) (a : ReadArrow) : Type 0 where
  pub from_below : a.from < states
  pub move_below : a.action < moves
  pub to_below : a.to < states
  pub higher : least ≤ 65536 * (65536 * a.from) + (65536 * a.action + a.to)
  pub next_is : next ≡ 65536 * (65536 * a.from) + (65536 * a.action + a.to) + 1

module _ (states moves least : ℕ) (a : ReadArrow) where
  -- its rank
  abbrev Rank : ℕ
  Rank = 65536 * (65536 * a.from) + (65536 * a.action + a.to)

  -- it is in range and ascends
  abbrev Tests : Bool
  Tests = ltb a.from states && (ltb a.action moves && (ltb a.to states && leb least Rank))

  tests_next : least_after states moves least a ≡ pick Tests (Rank + 1) 0
  unfolding least_after
  tests_next = refl

  tests_ok : (rest : List Arrow) → arrows_ok states moves least (as_arrow a ∷ rest)
      ≡ Tests && arrows_ok states moves (Rank + 1) rest
  unfolding arrows_ok rank
  tests_ok rest = simp (and_assoc, add-one)

  -- the check fails
  off_none : Tests ≡ false → least_after states moves least a ≡ 0
  off_none off = tests_next ∙ ap (λ (b : Bool). pick b (Rank + 1) 0) off

  on_next : Tests ≡ true → least_after states moves least a ≡ Rank + 1
  on_next on = tests_next ∙ ap (λ (b : Bool). pick b (Rank + 1) 0) on

  pub check_fails : least_after states moves least a ≡ 0 → (rest : List Arrow)
      → arrows_ok states moves least (as_arrow a ∷ rest) ≡ false
  check_fails none rest =
      ⊎_elim
      (λ on. absurd (omega (arith, none, on_next on)))
      (λ off. tests_ok rest ∙ ap (λ (b : Bool). b && arrows_ok states moves (Rank + 1) rest) off)
      (decided Tests)

  -- or it goes on with the arrows after it
  module _ (some : least_after states moves least a ≡ 0 → ⊥) where
    passes : Tests ≡ true
    passes = ⊎_elim (λ on. on) (λ off. absurd (some (off_none off))) (decided Tests)

    pub good_next : Good states moves least (least_after states moves least a) a
    good_next =
        let facts = simp and_iff at passes in
        record {
          from_below = ltb-true a.from states facts.0;
          move_below = ltb-true a.action moves facts.1.0;
          to_below = ltb-true a.to states facts.1.1.0;
          higher = leb-true least Rank facts.1.1.1;
          next_is = on_next passes;
        }

    pub check_on : (rest : List Arrow) → arrows_ok states moves least (as_arrow a ∷ rest)
        ≡ arrows_ok states moves (least_after states moves least a) rest
    check_on rest =
        tests_ok rest
        ∙ ap (λ (b : Bool). b && arrows_ok states moves (Rank + 1) rest) passes
        ∙ sym (ap (λ (m : ℕ). arrows_ok states moves m rest) (on_next passes))

-- arrow k from its six bytes, two for each of its numbers, past the place of the first arrow
pub arrow_bytes : (s : List ℕ) (first k : ℕ) {x u y : ℕ} → first ≡ 16 + 2 * word 0 s
    → (let at = first + 6 * k in
    x ≡ get_or s at 0 + 256 * get_or s (at + 1) 0
    → u ≡ get_or s (at + 2) 0 + 256 * get_or s (at + 3) 0
    → y ≡ get_or s (at + 4) 0 + 256 * get_or s (at + 5) 0
    → record { from = x; action = u; to = y } ≡ arrow_in s k)
unfolding arrow_in
arrow_bytes s first k e ex eu ey =
    let at = 16 + 2 * word 0 s + 6 * k in
    rw (ex, eu, ey, e, word_here s at, word_here s (at + 2), word_here s (at + 4)) (simp add_assoc)

-- arrow k is read, and checked
pub record Taken (s : List ℕ) (k least : ℕ) (b : ReadArrow) (next : ℕ) : Type 0 where
  pub head : PlantHead s
  pub more : k < word 3 s
  pub read : b ≡ arrow_in s k
  pub next_is : next ≡ least_after (plant_of s).states (plant_of s).moves least b

module _ {s : List ℕ} {mask k least g n : ℕ} {first states moves begins ends owners : List ℕ}
    (t : Passed s mask k least g n first states moves begins ends owners) {b : ReadArrow} {next : ℕ}
    (r : Taken s k least b next) where
  left : arrows_left s k ≡ as_arrow b ∷ arrows_left s (k + 1)
  left = rw r.read (left_more s k r.more)

  -- where it is refused the plant is
  pub pass_refused : next ≡ 0 → arrows_fine (plant_of s) ≡ false
  pass_refused none =
      t.checked
      ∙ ap (arrows_ok (plant_of s).states (plant_of s).moves least) left
      ∙ check_fails (plant_of s).states (plant_of s).moves least b (sym r.next_is ∙ none) (arrows_left s (k + 1))

  module _ (some : next ≡ 0 → ⊥) where
    good : Good (plant_of s).states (plant_of s).moves least next b
    good =
        rw r.next_is
        (good_next (plant_of s).states (plant_of s).moves least b (λ none. some (r.next_is ∙ none)))

    comes : Comes (plant_of s) t.arrows least (as_arrow b)
    comes =
        record {
          from_below = good.from_below;
          move_below = good.move_below;
          to_below = good.to_below;
          states_most = rw (plant_states s) r.head.sizes.states_most;
          moves_most = rw (plant_moves s) r.head.sizes.moves_most;
          higher = good.higher;
          past = t.past;
        }

    -- its move is the number of a bit
    pub pass_move : b.action < 32
    pass_move = omega (arith, comes.move_below, comes.moves_most)

    -- no later group has an end yet, and its own has one
    past_next : (x u : ℕ) → next ≤ key x u → ends_in (t.arrows ++ (as_arrow b ∷ [])) x u ≡ []
    past_next x u low =
        ends_other comes x u (λ e f. omega (arith, good.next_is))
        ∙ t.past x u (omega (arith, good.next_is, good.higher))

    here_next : (x u : ℕ) → u < 65536 → key x u < next → next ≤ key x u + 65536
        → 0 < length (ends_in (t.arrows ++ (as_arrow b ∷ [])) x u)
    here_next x u small low high =
        let state : b.from ≡ x =
        omega (arith, good.next_is, comes.move_below, comes.moves_most, comes.to_below, comes.states_most) in
        let action : b.action ≡ u =
        omega (arith, good.next_is, comes.move_below, comes.moves_most, comes.to_below, comes.states_most) in
        rw (← state, ← action, ends_own comes)
        (omega (arith, length-append (ends_in t.arrows b.from b.action) (b.to ∷ [])))

    -- a group that was begun before has an end
    begun : key b.from b.action < least → 0 < length (ends_in t.arrows b.from b.action)
    begun low =
        t.here b.from b.action (omega (arith, comes.move_below, comes.moves_most)) low
        (omega (arith, good.higher, comes.to_below, comes.states_most))

    -- the turn
    module _ (room : Spare g n states moves begins ends owners) {on new : ℕ} (eo : on ≡ pick (bit b.action mask) 1 0)
        (en : new ≡ pick (leb least (key b.from b.action)) on 0) where
      pub pass_turn : Passed s mask (k + 1) next (g + new) (n + on) (set first b.from (get_or first b.from 0 + new))
          (set states g b.from) (set moves g b.action) (set begins g n) (set ends n b.to)
          (set owners n (g - (on - new)))
      pass_turn =
          record {
            arrows = t.arrows ++ (as_arrow b ∷ []);
            many = length-append t.arrows (as_arrow b ∷ []) ∙ ap (λ (i : ℕ). i + 1) t.many;
            all =
                t.all
                ∙ ap (λ (l : List Arrow). t.arrows ++ l) left
                ∙ sym (append_assoc t.arrows (as_arrow b ∷ []) (arrows_left s (k + 1)));
            checked =
                t.checked
                ∙ ap (arrows_ok (plant_of s).states (plant_of s).moves least) left
                ∙ check_on (plant_of s).states (plant_of s).moves least b (λ none. some (r.next_is ∙ none))
                (arrows_left s (k + 1))
                ∙ ap (λ (m : ℕ). arrows_ok (plant_of s).states (plant_of s).moves m (arrows_left s (k + 1)))
                (sym r.next_is);
            past = past_next;
            here = here_next;
            laid = laid_turn comes t.laid room begun on new eo en;
          }

      -- the sums fit
      pub pass_small : (new ≤ on) × (on ≤ 1) × (on - new ≤ g)
      pass_small = turn_small comes t.laid begun on new eo en

      pub pass_count : (b.from < (plant_of s).states) × (get_or first b.from 0 ≤ g)
      pass_count = (good.from_below, turn_count comes t.laid room.moves_long)

-- past the last arrow all are laid out
module _ {s : List ℕ} {mask k least g n : ℕ} {first states moves begins ends owners : List ℕ}
    (t : Passed s mask k least g n first states moves begins ends owners) (end : word 3 s ≤ k) where
  pub pass_fine : arrows_fine (plant_of s) ≡ true
  unfolding arrows_ok
  pass_fine = t.checked ∙ ap (arrows_ok (plant_of s).states (plant_of s).moves least) (left_none s k end)

  pub pass_end : Laid (plant_of s) mask g n first states moves begins ends owners
  pass_end =
      let whole : t.arrows ≡ (plant_of s).arrows =
      sym (t.all ∙ ap (λ (l : List Arrow). t.arrows ++ l) (left_none s k end) ∙ append-nil t.arrows) in
      rw whole at t.laid
