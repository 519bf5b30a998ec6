-- The groups of a plant as rows: each has a state, an available move, and the ends of the move there. Assumes nothing.
use mathlib.Core.Path.{◌≡◌, refl, sym, ap, ◌∙◌}
use mathlib.Core.Bool.{true}
use mathlib.Core.Logic.{⊎_elim}
use mathlib.Core.List.{List, [], ◌∷◌, ◌++◌, append_assoc, append-nil}
use Prim.Native.Nat.{ℕ, zero, suc, ◌+◌, ◌-◌, ◌<◌, ◌≤◌}
use native.Mathlib.Omega.{arith}
use native.Mathlib.Nat.{add-zero}
use borrow.Author.Tests.{leb-true}
use lib.ListN.{length, get_or, replicate, length-append, length-replicate, get_or-append}
use lib.Seq.{get_or-append-add}
use Rattle.statements.specs.Sets.{bit, joined, is_in}
use Rattle.statements.specs.Plants.{Plant, ends, available}
use Rattle.sets.proofs.Tests.{decided, and_right}
use Rattle.layout.specs.Layout.{part_of, parts_of, all_parts, group_states, group_moves, group_ends, group_sizes, numbered}
use Rattle.game.proofs.Counts.{lt_or_le}
use Rattle.game.proofs.Levels.{has_place, place_has}

-- states, moves, numbers of ends, and ends of some groups, one after the other
pub data Rows (p : Plant) (mask : ℕ) : List ℕ → List ℕ → List ℕ → List ℕ → Type 0 where
  none : Rows p mask [] [] [] []
  row : {gs ms ns keys : List ℕ} (x u : ℕ) → available p mask x u ≡ true → Rows p mask gs ms ns keys
      → Rows p mask (x ∷ gs) (u ∷ ms) (length (ends p x u) ∷ ns) (ends p x u ++ keys)

-- an available move has an end
pub has_end : (p : Plant) (mask x u : ℕ) → available p mask x u ≡ true → 0 < length (ends p x u)
unfolding available
has_end p mask x u e = leb-true 1 (length (ends p x u)) (and_right (bit u mask) _ e)

module _ {p : Plant} {mask : ℕ} where
  -- groups after others
  rows_append : {gs ms ns keys gs' ms' ns' keys' : List ℕ} → Rows p mask gs ms ns keys
      → Rows p mask gs' ms' ns' keys' → Rows p mask (gs ++ gs') (ms ++ ms') (ns ++ ns') (keys ++ keys')
  rows_append none q = q
  rows_append (row x u e r) q = rw append_assoc (row x u e (rows_append r q))

  rows_joined : (f g h k : ℕ → List ℕ) → ((v : ℕ) → Rows p mask (f v) (g v) (h v) (k v)) → (n x : ℕ)
      → Rows p mask (joined n x f) (joined n x g) (joined n x h) (joined n x k)
  unfolding joined
  rows_joined f g h k all zero x = none
  rows_joined f g h k all (suc n) x = rows_append (all x) (rows_joined f g h k all n (suc x))

  -- each group's move is available in its state
  pub rows_available : {gs ms ns keys : List ℕ} → Rows p mask gs ms ns keys → (g : ℕ) → g < length gs
      → available p mask (get_or gs g 0) (get_or ms g 0) ≡ true
  rows_available none g h = absurd (omega arith)
  rows_available (row x u e r) zero h = e
  rows_available (row x u e r) (suc g) h = rows_available r g (omega arith)

  -- there are no more groups than ends
  pub rows_few : {gs ms ns keys : List ℕ} → Rows p mask gs ms ns keys → length gs ≤ length keys
  rows_few none = omega arith
  rows_few (row {keys = keys} x u e r) =
      omega (arith, rows_few r, has_end p mask x u e, length-append (ends p x u) keys)

-- the numbers of the first part, and of the others
owner_here : (k n : ℕ) (ns : List ℕ) (a : ℕ) → a < n → get_or (numbered k (n ∷ ns)) a 0 ≡ k
unfolding numbered
owner_here k n ns a h =
    get_or-append (replicate n k) (numbered (suc k) ns) 0 a (omega (arith, length-replicate n k)) ∙ same n a h
  where
    same : (n a : ℕ) → a < n → get_or (replicate n k) a 0 ≡ k
    same zero a h = absurd (omega arith)
    same (suc n) zero h = refl
    same (suc n) (suc a) h = same n a (omega arith)

owner_past : (k n : ℕ) (ns : List ℕ) (a : ℕ) → get_or (numbered k (n ∷ ns)) (n + a) 0 ≡ get_or (numbered (suc k) ns) a 0
unfolding numbered
owner_past k n ns a =
    rw (length-replicate n k) at (get_or-append-add (replicate n k) (numbered (suc k) ns) a 0)

-- the end at place a is one of group g, where the groups are numbered from k on
abbrev pub Owned : Plant → List ℕ → List ℕ → List ℕ → List ℕ → ℕ → ℕ → ℕ → Type 0
Owned p gs ms ns keys k a g =
    (g < length gs) × (get_or (numbered k ns) a 0 ≡ k + g)
    × (is_in (get_or keys a 0) (ends p (get_or gs g 0) (get_or ms g 0)) ≡ true)

-- a place at which end y of group g stands
abbrev pub Placed : List ℕ → List ℕ → ℕ → ℕ → ℕ → Type 0
Placed ns keys k g y = (a : ℕ) × (a < length keys) × (get_or (numbered k ns) a 0 ≡ k + g) × (get_or keys a 0 ≡ y)

module _ {p : Plant} {mask : ℕ} where
  pub rows_sound : {gs ms ns keys : List ℕ} → Rows p mask gs ms ns keys → (k a : ℕ) → a < length keys
      → (g : ℕ) × Owned p gs ms ns keys k a g
  rows_sound none k a h = absurd (omega arith)
  rows_sound (row {gs} {ms} {ns} {keys} x u e r) k a h =
      let ys = ends p x u in
      ⊎_elim
      (λ l. (
        0,
        (
          omega arith,
          owner_here k (length ys) ns a l ∙ sym (add-zero k),
          rw (get_or-append ys keys 0 a l) (place_has ys (get_or ys a 0) a l refl),
        ),
      ))
      (λ l.
      let there : a ≡ length ys + (a - length ys) = omega arith in
      let o = rows_sound r (suc k) (a - length ys) (omega (arith, length-append ys keys)) in
      let next : suc k + o.0 ≡ k + suc o.0 = omega arith in (
        suc o.0,
        (
          omega (arith, o.1.0),
          ap (λ (i : ℕ). get_or (numbered k (length ys ∷ ns)) i 0) there
              ∙ owner_past k (length ys) ns (a - length ys)
              ∙ o.1.1
              ∙ next,
          ap (λ (i : ℕ). is_in i (ends p (get_or gs o.0 0) (get_or ms o.0 0)))
              (ap (λ (i : ℕ). get_or (ys ++ keys) i 0) there ∙ get_or-append-add ys keys (a - length ys) 0)
              ∙ o.1.2,
        ),
      ))
      (lt_or_le a (length ys))

  pub rows_complete : {gs ms ns keys : List ℕ} → Rows p mask gs ms ns keys → (k g : ℕ) → g < length gs → (y : ℕ)
      → is_in y (ends p (get_or gs g 0) (get_or ms g 0)) ≡ true → Placed ns keys k g y
  rows_complete none k g h y m = absurd (omega arith)
  rows_complete (row {gs} {ms} {ns} {keys} x u e r) k zero h y m =
      let ys = ends p x u in
      let o = has_place ys y m in (
        o.0,
        omega (arith, o.1.0, length-append ys keys),
        owner_here k (length ys) ns o.0 o.1.0 ∙ sym (add-zero k),
        get_or-append ys keys 0 o.0 o.1.0 ∙ o.1.1,
      )
  rows_complete (row {gs} {ms} {ns} {keys} x u e r) k (suc g) h y m =
      let ys = ends p x u in
      let o = rows_complete r (suc k) g (omega arith) y m in
      let next : suc k + g ≡ k + suc g = omega arith in (
        length ys + o.0,
        omega (arith, o.1, length-append ys keys),
        owner_past k (length ys) ns o.0 ∙ o.2 ∙ next,
        get_or-append-add ys keys o.0 0 ∙ o.3,
      )

-- the groups of a plant
module _ (p : Plant) (mask : ℕ) where
  row_of : (x u : ℕ)
      → Rows p mask (part_of p mask (λ x u ys. x ∷ []) x u) (part_of p mask (λ x u ys. u ∷ []) x u)
      (part_of p mask (λ x u ys. length ys ∷ []) x u) (part_of p mask (λ x u ys. ys) x u)
  unfolding part_of
  row_of x u =
      ⊎_elim
      (λ e. rw e (rw append-nil at (row x u e none)))
      (λ e. rw e none)
      (decided (available p mask x u))

  pub plant_rows : Rows p mask (group_states p mask) (group_moves p mask) (group_sizes p mask) (group_ends p mask)
  unfolding group_states group_moves group_sizes group_ends all_parts parts_of
  plant_rows =
      rows_joined (parts_of p mask (λ x u ys. x ∷ [])) (parts_of p mask (λ x u ys. u ∷ []))
      (parts_of p mask (λ x u ys. length ys ∷ [])) (parts_of p mask (λ x u ys. ys))
      (λ x.
      rows_joined (part_of p mask (λ x u ys. x ∷ []) x) (part_of p mask (λ x u ys. u ∷ []) x)
      (part_of p mask (λ x u ys. length ys ∷ []) x) (part_of p mask (λ x u ys. ys) x) (row_of x) p.moves 0)
      p.states 0
