-- The parts of a plant's groups when one arrow more is passed, which comes after all others: only the last part grows.
-- Assumes nothing.
use mathlib.Core.Path.{◌≡◌, refl, sym, ap, ap₂, ◌∙◌}
use mathlib.Core.Logic.{⊎_elim}
use mathlib.Core.Bool.{Bool, true, false, ◌&&◌}
use mathlib.Core.List.{List, [], ◌∷◌, ◌++◌, append_assoc, append-nil}
use Prim.Native.Nat.{ℕ, ◌+◌, ◌*◌, ◌≤◌, ◌<◌}
use native.Mathlib.Nat.{zero-add}
use native.Mathlib.Omega.{arith}
use lib.Dec.{eqb}
use lib.ListN.{length, get_or, set, length-append}
use Rattle.statements.specs.Sets.{bit, joined, cons_if}
use Rattle.statements.specs.Plants.{Arrow, Plant, ends_in}
use Rattle.sets.proofs.Tests.{same_number}
use Rattle.sets.proofs.Joined.{joined_same, joined_none, joined_at}
use Rattle.format.proofs.Stored.{ends_nil, ends_match, ends_from, ends_move}
use Rattle.layout.specs.Layout.{part_of, parts_of, all_parts, group_counts}
use Rattle.layout.proofs.Joining.{joined_upto, joined_set}
use Rattle.layout.proofs.Parts.{having, given, part_given, given_none, given_off, given_on}

-- the ends of arrows put together
cons_if_append : (b : Bool) (y : ℕ) (ys zs : List ℕ) → cons_if b y (ys ++ zs) ≡ cons_if b y ys ++ zs
cons_if_append true y ys zs = refl
cons_if_append false y ys zs = refl

ends_append : (xs ys : List Arrow) (x u : ℕ) → ends_in (xs ++ ys) x u ≡ ends_in xs x u ++ ends_in ys x u
unfolding ends_in
ends_append [] ys x u = refl
ends_append (a ∷ xs) ys x u =
    ap (cons_if (eqb a.from x && eqb a.move u) a.to) (ends_append xs ys x u)
    ∙ cons_if_append (eqb a.from x && eqb a.move u) a.to (ends_in xs x u) (ends_in ys x u)

-- an arrow that comes after those passed: in range, and ranked at the least that they leave
pub record Comes (p : Plant) (xs : List Arrow) (least : ℕ) (a : Arrow) : Type 0 where
  pub from_below : a.from < p.states
  pub move_below : a.move < p.moves
  pub to_below : a.to < p.states
  pub states_most : p.states ≤ 1024
  pub moves_most : p.moves ≤ 32
  pub higher : least ≤ 65536 * (65536 * a.from) + (65536 * a.move + a.to)
  pub past : (x u : ℕ) → least ≤ 65536 * (65536 * x) + 65536 * u → ends_in xs x u ≡ []

module _ {p : Plant} {xs : List Arrow} {least : ℕ} {a : Arrow} (t : Comes p xs least a) where
  -- the ends of its own move in its state, of all others, and of those that come later
  pub ends_own : ends_in (xs ++ (a ∷ [])) a.from a.move ≡ ends_in xs a.from a.move ++ (a.to ∷ [])
  ends_own =
      let own : ends_in (a ∷ []) a.from a.move ≡ a.to ∷ [] =
      ends_match a [] refl refl ∙ ap (λ (l : List ℕ). a.to ∷ l) (ends_nil a.from a.move) in
      ends_append xs (a ∷ []) a.from a.move ∙ rw own

  pub ends_other : (x u : ℕ) → (a.from ≡ x → a.move ≡ u → ⊥) → ends_in (xs ++ (a ∷ [])) x u ≡ ends_in xs x u
  ends_other x u d =
      let none : ends_in (a ∷ []) x u ≡ [] =
      ⊎_elim
      (λ e. ends_move a [] x u (d e) ∙ ends_nil x u)
      (λ e. ends_from a [] x u e ∙ ends_nil x u)
      (same_number a.from x) in
      ends_append xs (a ∷ []) x u ∙ rw (none, append-nil)

  later_state : (x u : ℕ) → a.from < x → ends_in xs x u ≡ []
  later_state x u h = t.past x u (omega (arith, t.higher, t.move_below, t.to_below, t.states_most, t.moves_most))

  later_move : (u : ℕ) → a.move < u → ends_in xs a.from u ≡ []
  later_move u h = t.past a.from u (omega (arith, t.higher, t.to_below, t.states_most))

  module _ (mask : ℕ) (part : ℕ → ℕ → List ℕ → List ℕ) where
    -- a part stays where the ends do, and there is none where there are no ends
    part_other : (x u : ℕ) → (a.from ≡ x → a.move ≡ u → ⊥)
        → part_of (having p (xs ++ (a ∷ []))) mask part x u ≡ part_of (having p xs) mask part x u
    part_other x u d =
        part_given (having p (xs ++ (a ∷ []))) mask part x u
        ∙ ap (given (bit u mask) part x u) (ends_other x u d)
        ∙ sym (part_given (having p xs) mask part x u)

    part_none : (x u : ℕ) → ends_in xs x u ≡ [] → part_of (having p xs) mask part x u ≡ []
    part_none x u e =
        part_given (having p xs) mask part x u
        ∙ ap (given (bit u mask) part x u) e
        ∙ given_none part x u (bit u mask)

    -- the parts of states before it stay, and later states have none
    state_other : (x : ℕ) → (a.from ≡ x → ⊥)
        → parts_of (having p (xs ++ (a ∷ []))) mask part x ≡ parts_of (having p xs) mask part x
    unfolding parts_of
    state_other x d =
        joined_same (part_of (having p (xs ++ (a ∷ []))) mask part x) (part_of (having p xs) mask part x) p.moves 0
        (λ u _ _. part_other x u (λ e _. d e))

    state_none : (x : ℕ) → a.from < x → parts_of (having p xs) mask part x ≡ []
    unfolding parts_of
    state_none x h =
        joined_none (part_of (having p xs) mask part x) p.moves 0
        (λ u _ _. part_none x u (later_state x u h))

    -- the parts of its state before its move
    pub lower : List ℕ
    lower = joined a.move 0 (part_of (having p xs) mask part a.from)

    -- all parts before its own
    pub ahead : List ℕ
    ahead = joined a.from 0 (parts_of (having p xs) mask part) ++ lower

    state_old : parts_of (having p xs) mask part a.from ≡ lower ++ part_of (having p xs) mask part a.from a.move
    unfolding parts_of lower
    state_old =
        joined_upto (part_of (having p xs) mask part a.from) a.move p.moves t.move_below
        (λ u h. part_none a.from u (later_move u h))

    state_new : parts_of (having p (xs ++ (a ∷ []))) mask part a.from
        ≡ lower ++ part_of (having p (xs ++ (a ∷ []))) mask part a.from a.move
    unfolding parts_of lower
    state_new =
        let new = part_of (having p (xs ++ (a ∷ []))) mask part a.from in
        let old = part_of (having p xs) mask part a.from in
        joined_upto new a.move p.moves t.move_below
        (λ u h. part_other a.from u (λ _ e. omega arith) ∙ part_none a.from u (later_move u h))
        ∙ ap (λ (l : List ℕ). l ++ new a.move)
        (joined_same new old a.move 0 (λ u _ h. part_other a.from u (λ _ e. omega arith)))

    all_old : all_parts (having p xs) mask part ≡ ahead ++ part_of (having p xs) mask part a.from a.move
    unfolding all_parts ahead
    all_old =
        let before = joined a.from 0 (parts_of (having p xs) mask part) in
        joined_upto (parts_of (having p xs) mask part) a.from p.states t.from_below state_none
        ∙ ap (λ (l : List ℕ). before ++ l) state_old
        ∙ sym (append_assoc before lower (part_of (having p xs) mask part a.from a.move))

    all_new : all_parts (having p (xs ++ (a ∷ []))) mask part
        ≡ ahead ++ part_of (having p (xs ++ (a ∷ []))) mask part a.from a.move
    unfolding all_parts ahead
    all_new =
        let new = parts_of (having p (xs ++ (a ∷ []))) mask part in
        let old = parts_of (having p xs) mask part in
        let before = joined a.from 0 old in
        joined_upto new a.from p.states t.from_below
        (λ x h. state_other x (λ e. omega arith) ∙ state_none x h)
        ∙ ap₂ (λ (k l : List ℕ). k ++ l)
        (joined_same new old a.from 0 (λ x _ h. state_other x (λ e. omega arith))) state_new
        ∙ sym (append_assoc before lower (part_of (having p (xs ++ (a ∷ []))) mask part a.from a.move))

    -- its own part, before and after: none of a move out of service
    own_old : part_of (having p xs) mask part a.from a.move
        ≡ given (bit a.move mask) part a.from a.move (ends_in xs a.from a.move)
    own_old = part_given (having p xs) mask part a.from a.move

    own_new : part_of (having p (xs ++ (a ∷ []))) mask part a.from a.move
        ≡ given (bit a.move mask) part a.from a.move (ends_in xs a.from a.move ++ (a.to ∷ []))
    own_new =
        part_given (having p (xs ++ (a ∷ []))) mask part a.from a.move
        ∙ ap (given (bit a.move mask) part a.from a.move) ends_own

    own_off : bit a.move mask ≡ false
        → part_of (having p (xs ++ (a ∷ []))) mask part a.from a.move
        ≡ part_of (having p xs) mask part a.from a.move
    own_off off =
        let ys = ends_in xs a.from a.move in
        let none = given_off part a.from a.move (bit a.move mask) in
        own_new ∙ none (ys ++ (a.to ∷ [])) off ∙ sym (own_old ∙ none ys off)

    -- some where it serves and there are ends
    own_some : bit a.move mask ≡ true → 0 < length (ends_in xs a.from a.move)
        → part_of (having p xs) mask part a.from a.move
        ≡ part a.from a.move (ends_in xs a.from a.move)
    own_some on some = own_old ∙ rw on (given_on part a.from a.move (ends_in xs a.from a.move) some)

    own_more : bit a.move mask ≡ true → part_of (having p (xs ++ (a ∷ []))) mask part a.from a.move
        ≡ part a.from a.move (ends_in xs a.from a.move ++ (a.to ∷ []))
    own_more on =
        let ys = ends_in xs a.from a.move ++ (a.to ∷ []) in
        let some : 0 < length ys = omega (arith, length-append (ends_in xs a.from a.move) (a.to ∷ [])) in
        own_new ∙ rw on (given_on part a.from a.move ys some)

    -- so all parts stay where its move is out of service
    pub all_off : bit a.move mask ≡ false
        → all_parts (having p (xs ++ (a ∷ []))) mask part ≡ all_parts (having p xs) mask part
    all_off off = all_new ∙ ap (λ (l : List ℕ). ahead ++ l) (own_off off) ∙ sym all_old

    -- where it is the first of its move there is a part more
    pub all_opens : bit a.move mask ≡ true → ends_in xs a.from a.move ≡ []
        → all_parts (having p (xs ++ (a ∷ []))) mask part
        ≡ all_parts (having p xs) mask part ++ part a.from a.move (a.to ∷ [])
    all_opens on none =
        let old = all_old ∙ ap (λ (l : List ℕ). ahead ++ l) (part_none a.from a.move none) ∙ append-nil ahead in
        let new = ap (λ (l : List ℕ). part a.from a.move (l ++ (a.to ∷ []))) none in
        all_new ∙ ap₂ (λ (k l : List ℕ). k ++ l) (sym old) (own_more on ∙ new)

    -- and otherwise the last part is of one end more
    pub joins_old : bit a.move mask ≡ true → 0 < length (ends_in xs a.from a.move)
        → all_parts (having p xs) mask part ≡ ahead ++ part a.from a.move (ends_in xs a.from a.move)
    joins_old on some = all_old ∙ ap (λ (l : List ℕ). ahead ++ l) (own_some on some)

    pub joins_new : bit a.move mask ≡ true → all_parts (having p (xs ++ (a ∷ []))) mask part
        ≡ ahead ++ part a.from a.move (ends_in xs a.from a.move ++ (a.to ∷ []))
    joins_new on = all_new ∙ ap (λ (l : List ℕ). ahead ++ l) (own_more on)

  -- the groups of each state: those of its own state grow by as many as its own part does
  module _ (mask : ℕ) where
    abbrev in_state : List Arrow → ℕ → List ℕ
    in_state ys x = parts_of (having p ys) mask (λ y u zs. u ∷ []) x

    abbrev own : List Arrow → List ℕ
    own ys = part_of (having p ys) mask (λ y u zs. u ∷ []) a.from a.move

    counts_grow : (n : ℕ) → length (own (xs ++ (a ∷ []))) ≡ length (own xs) + n
        → group_counts (having p (xs ++ (a ∷ []))) mask
        ≡ set (group_counts (having p xs) mask) a.from (get_or (group_counts (having p xs) mask) a.from 0 + n)
    unfolding group_counts
    counts_grow n e =
        let part : ℕ → ℕ → List ℕ → List ℕ = λ y u zs. u ∷ [] in
        let c : ℕ → ℕ = λ x. length (in_state xs x) in
        let d : ℕ → ℕ = λ x. length (in_state (xs ++ (a ∷ [])) x) in
        let grown : d a.from ≡ c a.from + n =
        omega (
          arith,
          ap length (state_old mask part),
          ap length (state_new mask part),
          length-append (lower mask part) (own xs),
          length-append (lower mask part) (own (xs ++ (a ∷ []))),
        ) in
        let here : get_or (joined p.states 0 (λ x. c x ∷ [])) a.from 0 ≡ c a.from =
        rw zero-add at (joined_at c p.states 0 a.from t.from_below) in
        let other : (k : ℕ) → (k ≡ 0 + a.from → ⊥) → d k ≡ c k =
        λ k o. ap length (state_other mask part k (λ f. o (sym f ∙ sym (zero-add a.from)))) in
        rw (here, ← grown) (rw zero-add at (joined_set c d p.states 0 a.from t.from_below other))

    pub counts_off : bit a.move mask ≡ false → group_counts (having p (xs ++ (a ∷ []))) mask
        ≡ set (group_counts (having p xs) mask) a.from (get_or (group_counts (having p xs) mask) a.from 0 + 0)
    counts_off off = counts_grow 0 (omega (arith, ap length (own_off mask (λ y u zs. u ∷ []) off)))

    pub counts_opens : bit a.move mask ≡ true → ends_in xs a.from a.move ≡ []
        → group_counts (having p (xs ++ (a ∷ []))) mask
        ≡ set (group_counts (having p xs) mask) a.from (get_or (group_counts (having p xs) mask) a.from 0 + 1)
    counts_opens on none =
        let part : ℕ → ℕ → List ℕ → List ℕ = λ y u zs. u ∷ [] in
        counts_grow 1
        (omega (
          arith,
          ap length (own_more mask part on),
          ap length (part_none mask part a.from a.move none),
        ))

    pub counts_joins : bit a.move mask ≡ true → 0 < length (ends_in xs a.from a.move)
        → group_counts (having p (xs ++ (a ∷ []))) mask
        ≡ set (group_counts (having p xs) mask) a.from (get_or (group_counts (having p xs) mask) a.from 0 + 0)
    counts_joins on some =
        let part : ℕ → ℕ → List ℕ → List ℕ = λ y u zs. u ∷ [] in
        counts_grow 0
        (omega (arith, ap length (own_more mask part on), ap length (own_some mask part on some)))
