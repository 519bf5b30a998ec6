-- The groups of a plant by number: which state, move and ends each has, that each available move has one, and that they
-- are no more than the arrows. Assumes nothing.
use mathlib.Core.Path.{◌≡◌, sym, ap, ◌∙◌}
use mathlib.Core.Bool.{true}
use mathlib.Core.Logic.{⊎_elim}
use mathlib.Core.List.{List, [], ◌∷◌, ◌++◌}
use Prim.Native.Nat.{ℕ, zero, suc, ◌+◌, ◌<◌, ◌≤◌}
use native.Mathlib.Omega.{arith}
use native.Mathlib.Nat.{add-zero, zero-add}
use lib.ListN.{length, get_or, length-append, get_or-append}
use lib.Seq.{get_or-append-add}
use Rattle.statements.specs.Sets.{joined, is_in}
use Rattle.statements.specs.Plants.{Arrow, Plant, ends_in, ends, available}
use Rattle.sets.proofs.Tests.{decided, same_number}
use Rattle.sets.proofs.Joined.{joined_same, joined_none, joined_longer}
use Rattle.format.proofs.Stored.{ends_nil, ends_match, ends_from, ends_move}
use Rattle.layout.specs.Layout.{part_of, parts_of, all_parts, group_states, group_moves, group_ends, group_sizes, group_owners}
use Rattle.layout.specs.Layout.{numbered}
use Rattle.layout.proofs.Joining.{joined_long}
use Rattle.layout.proofs.Closing.{pick_long}
use Rattle.graph.proofs.Rows.{rows_available, rows_few, rows_sound, rows_complete, plant_rows}

-- a number of one of the lists joined is one of the whole, and so in lists as long, at the same place
joined_find : (f h : ℕ → List ℕ) → ((k : ℕ) → length (f k) ≡ length (h k)) → (n x v j : ℕ) → v < n
    → j < length (f (x + v))
    → (i : ℕ) × (i < length (joined n x f)) × (get_or (joined n x f) i 0 ≡ get_or (f (x + v)) j 0)
    × (get_or (joined n x h) i 0 ≡ get_or (h (x + v)) j 0)
unfolding joined
joined_find f h same zero x v j l m = absurd (omega arith)
joined_find f h same (suc n) x zero j l m =
    let there = add-zero x in
    let short : j < length (f x) = rw there at m in
    let short' : j < length (h x) = omega (arith, same x) in (
      j,
      omega (arith, length-append (f x) (joined n (suc x) f)),
      get_or-append (f x) (joined n (suc x) f) 0 j short ∙ ap (λ (k : ℕ). get_or (f k) j 0) (sym there),
      get_or-append (h x) (joined n (suc x) h) 0 j short' ∙ ap (λ (k : ℕ). get_or (h k) j 0) (sym there),
    )
joined_find f h same (suc n) x (suc v) j l m =
    let there : suc x + v ≡ x + suc v = omega arith in
    let o = joined_find f h same n (suc x) v j (omega arith) (rw there m) in
    let past = ap (λ (k : ℕ). get_or (h x ++ joined n (suc x) h) (k + o.0) 0) (same x) in (
      length (f x) + o.0,
      omega (arith, o.1, length-append (f x) (joined n (suc x) f)),
      get_or-append-add (f x) (joined n (suc x) f) o.0 0 ∙ o.2 ∙ ap (λ (k : ℕ). get_or (f k) j 0) there,
      past ∙ get_or-append-add (h x) (joined n (suc x) h) o.0 0 ∙ o.3 ∙ ap (λ (k : ℕ). get_or (h k) j 0) there,
    )

-- lists of which none is longer
joined_shorter : (f g : ℕ → List ℕ) → ((k : ℕ) → length (f k) ≤ length (g k)) → (n x : ℕ)
    → length (joined n x f) ≤ length (joined n x g)
unfolding joined
joined_shorter f g short zero x = omega arith
joined_shorter f g short (suc n) x =
    omega (
      arith,
      short x,
      joined_shorter f g short n (suc x),
      length-append (f x) (joined n (suc x) f),
      length-append (g x) (joined n (suc x) g),
    )

-- an arrow is one end of one move in one state
end_longer : (a : Arrow) (rest : List Arrow) (x u : ℕ) → length (ends_in (a ∷ rest) x u) ≤ length (ends_in rest x u) + 1
end_longer a rest x u =
    ⊎_elim
    (λ e.
    ⊎_elim
    (λ f. rw (ends_match a rest e f) (omega arith))
    (λ d. rw (ends_move a rest x u d) (omega arith))
    (same_number a.move u))
    (λ d. rw (ends_from a rest x u d) (omega arith))
    (same_number a.from x)

ends_most : (n m : ℕ) (arrows : List Arrow)
    → length (joined n 0 (λ x. joined m 0 (ends_in arrows x))) ≤ length arrows
ends_most n m [] =
    let none : (x : ℕ) → joined m 0 (ends_in [] x) ≡ [] =
    λ x. joined_none (ends_in [] x) m 0 (λ u _ _. ends_nil x u) in
    rw (joined_none (λ x. joined m 0 (ends_in [] x)) n 0 (λ x _ _. none x)) (omega arith)
ends_most n m (a ∷ rest) =
    let others = ends_most n m rest in
    let more =
    joined_longer (λ x. joined m 0 (ends_in (a ∷ rest) x)) (λ x. joined m 0 (ends_in rest x)) a.from 1
    (λ x d.
    joined_same (ends_in (a ∷ rest) x) (ends_in rest x) m 0 (λ u _ _. ends_from a rest x u (λ e. d (sym e))))
    (joined_longer (ends_in (a ∷ rest) a.from) (ends_in rest a.from) a.move 1
    (λ u d. ends_move a rest a.from u (λ e. d (sym e))) (end_longer a rest a.from a.move) m 0)
    n 0 in
    omega arith

module _ (p : Plant) (mask : ℕ) where
  -- the state and the move of group g
  abbrev pub state_of : ℕ → ℕ
  state_of g = get_or (group_states p mask) g 0

  abbrev pub move_of : ℕ → ℕ
  move_of g = get_or (group_moves p mask) g 0

  -- its move is available
  pub group_available : (g : ℕ) → g < length (group_states p mask) → available p mask (state_of g) (move_of g) ≡ true
  group_available = rows_available (plant_rows p mask)

  -- the number at a place is the number of a group, and the end there is one of that group
  pub place_group : (a : ℕ) → a < length (group_ends p mask)
      → let g = get_or (group_owners p mask) a 0 in
      (g < length (group_states p mask)) × (is_in (get_or (group_ends p mask) a 0) (ends p (state_of g) (move_of g)) ≡ true)
  unfolding group_owners
  place_group a h =
      let o = rows_sound (plant_rows p mask) 0 a h in
      let here : get_or (numbered 0 (group_sizes p mask)) a 0 ≡ o.0 = o.1.1 ∙ zero-add o.0 in
      rw here (o.1.0, o.1.2)

  -- each end of a group has a place
  pub group_place : (g : ℕ) → g < length (group_states p mask) → (y : ℕ)
      → is_in y (ends p (state_of g) (move_of g)) ≡ true
      → (a : ℕ) × (a < length (group_ends p mask)) × (get_or (group_owners p mask) a 0 ≡ g)
      × (get_or (group_ends p mask) a 0 ≡ y)
  unfolding group_owners
  group_place g h y m =
      let o = rows_complete (plant_rows p mask) 0 g h y m in
      (o.0, o.1, o.2 ∙ zero-add g, o.3)

  -- the part of an available move, and two parts of one number each
  part_here : (x u : ℕ) → available p mask x u ≡ true → (part : ℕ → ℕ → List ℕ → List ℕ)
      → part_of p mask part x u ≡ part x u (ends p x u)
  unfolding part_of
  part_here x u e part = rw e

  part_long : (y v : ℕ)
      → length (part_of p mask (λ x u ys. x ∷ []) y v) ≡ length (part_of p mask (λ x u ys. u ∷ []) y v)
  unfolding part_of
  part_long y v = pick_long (available p mask y v) y v

  -- each available move in range has a group
  pub group_of : (x u : ℕ) → x < p.states → u < p.moves → available p mask x u ≡ true
      → (g : ℕ) × (g < length (group_states p mask)) × (state_of g ≡ x) × (move_of g ≡ u)
  unfolding group_states group_moves all_parts parts_of
  group_of x u hx hu e =
      let xs : ℕ → ℕ → List ℕ → List ℕ = λ x u ys. x ∷ [] in
      let us : ℕ → ℕ → List ℕ → List ℕ = λ x u ys. u ∷ [] in
      let same : (y v : ℕ) → length (part_of p mask xs y v) ≡ length (part_of p mask us y v) = part_long in
      let hereX = part_here x u e xs in
      let hereU = part_here x u e us in
      let inner =
      joined_find (part_of p mask xs x) (part_of p mask us x) (same x) p.moves 0 u 0 hu
      (rw (zero-add, hereX) (omega arith)) in
      let outer =
      joined_find (parts_of p mask xs) (parts_of p mask us)
      (λ y. joined_long (part_of p mask xs y) (part_of p mask us y) (same y) p.moves 0)
      p.states 0 x inner.0 hx (rw zero-add inner.1) in (
        outer.0,
        outer.1,
        outer.2 ∙ rw zero-add (inner.2 ∙ rw (zero-add, hereX)),
        outer.3 ∙ rw zero-add (inner.3 ∙ rw (zero-add, hereU)),
      )

  -- there are no more ends than arrows, and no more groups than ends: a part is no longer than the ends
  part_short : (x u : ℕ) → length (part_of p mask (λ x u ys. ys) x u) ≤ length (ends_in p.arrows x u)
  unfolding part_of ends
  part_short x u =
      ⊎_elim
      (λ e. rw e (omega arith))
      (λ e. rw e (omega arith))
      (decided (available p mask x u))

  pub ends_few : length (group_ends p mask) ≤ length p.arrows
  unfolding group_ends all_parts parts_of
  ends_few =
      let short =
      joined_shorter (parts_of p mask (λ x u ys. ys)) (λ x. joined p.moves 0 (ends_in p.arrows x))
      (λ x. joined_shorter (part_of p mask (λ x u ys. ys) x) (ends_in p.arrows x) (part_short x) p.moves 0)
      p.states 0 in
      omega (arith, short, ends_most p.states p.moves p.arrows)

  pub groups_few : length (group_states p mask) ≤ length (group_ends p mask)
  groups_few = rows_few (plant_rows p mask)
