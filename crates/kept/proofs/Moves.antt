-- The controllable predecessor: a state is in it exactly when some available move goes wholly into the set, and then
-- the lowest such move does, which is the lowest in the mask of all of them; it grows with the set and with the moves
-- in service. Assumes nothing.
use mathlib.Core.Path.{◌≡◌}
use mathlib.Core.Logic.{⊎_elim}
use mathlib.Core.Bool.{true, false}
use mathlib.Core.List.{List, [], ◌∷◌}
use Prim.Native.Nat.{ℕ, ◌<◌}
use native.Mathlib.Omega.{arith}
use native.Mathlib.Decide.{dec_lt}
use lib.Dec.{leb}
use lib.ListN.{length}
use borrow.Author.Tests.{ltb-true, lt-ltb, leb-true}
use Rattle.statements.specs.Sets.{bit, bits, first, lowest, is_in, all_in}
use Rattle.statements.specs.Plants.{Plant, ends, available, goes_into, move_into, moves_into, can}
use Rattle.sets.proofs.Tests.{decided, not_both, and_true, and_left, and_right, and_false, same_test}
use Rattle.sets.proofs.Members.{is_in_here, is_in_none, all_in_at, all_in_all, all_in_fails}
use Rattle.sets.proofs.First.{first_holds, first_least, first_before}
use Rattle.sets.proofs.Bits.{bits_at, bits_past, lowest_bits}

-- every arrow's move is one of the plant's
abbrev pub MovesBelow : Plant → Type 0
MovesBelow p = (x u y : ℕ) → is_in y (ends p x u) ≡ true → u < p.moves

-- one mask has every move in service that another has
abbrev pub MaskWithin : ℕ → ℕ → Type 0
MaskWithin m n = (u : ℕ) → bit u m ≡ true → bit u n ≡ true

-- every member of one set is a member of another
abbrev pub Sub : List ℕ → List ℕ → Type 0
Sub xs ys = (x : ℕ) → is_in x xs ≡ true → is_in x ys ≡ true

-- an available move is in service and has an end
pub available_bit : (p : Plant) (mask x u : ℕ) → available p mask x u ≡ true → bit u mask ≡ true
unfolding available
available_bit p mask x u h = and_left (bit u mask) (leb 1 (length (ends p x u))) h

some_end : (ys : List ℕ) → leb 1 (length ys) ≡ true → (y : ℕ) × (is_in y ys ≡ true)
some_end [] h = absurd (omega (arith, leb-true 1 0 h))
some_end (y ∷ ys) h = (y, is_in_here y ys)

pub available_end : (p : Plant) (mask x u : ℕ) → available p mask x u ≡ true → (y : ℕ) × (is_in y (ends p x u) ≡ true)
unfolding available
available_end p mask x u h = some_end (ends p x u) (and_right (bit u mask) (leb 1 (length (ends p x u))) h)

pub available_below : (p : Plant) (mask x u : ℕ) → MovesBelow p → available p mask x u ≡ true → u < p.moves
available_below p mask x u b h = let e = available_end p mask x u h in b x u e.0 e.1

pub available_more : (p : Plant) (m n x u : ℕ) → MaskWithin m n → available p m x u ≡ true → available p n x u ≡ true
unfolding available
available_more p m n x u w h =
    let c = leb 1 (length (ends p x u)) in
    and_true (w u (and_left (bit u m) c h)) (and_right (bit u m) c h)

-- a move that goes into a set is available and all its ends are in the set
pub into_available : (p : Plant) (mask : ℕ) (ys : List ℕ) (x u : ℕ) → goes_into p mask ys x u ≡ true →
    available p mask x u ≡ true
unfolding goes_into
into_available p mask ys x u h = and_left (available p mask x u) (all_in (ends p x u) ys) h

pub into_ends : (p : Plant) (mask : ℕ) (ys : List ℕ) (x u : ℕ) → goes_into p mask ys x u ≡ true → (y : ℕ) →
    is_in y (ends p x u) ≡ true → is_in y ys ≡ true
unfolding goes_into
into_ends p mask ys x u h = all_in_at (ends p x u) ys (and_right (available p mask x u) (all_in (ends p x u) ys) h)

pub into_all : (p : Plant) (mask : ℕ) (ys : List ℕ) (x u : ℕ) → available p mask x u ≡ true →
    ((y : ℕ) → is_in y (ends p x u) ≡ true → is_in y ys ≡ true) → goes_into p mask ys x u ≡ true
unfolding goes_into
into_all p mask ys x u a f = and_true a (all_in_all (ends p x u) ys f)

-- the lowest such move, where there is one
pub can_move : (p : Plant) (mask : ℕ) (ys : List ℕ) (x : ℕ) → can p mask ys x ≡ true →
    (move_into p mask ys x < p.moves) × (goes_into p mask ys x (move_into p mask ys x) ≡ true)
unfolding can move_into
can_move p mask ys x h =
    let l = ltb-true (first p.moves 0 (goes_into p mask ys x)) p.moves h in
    (l, first_holds p.moves 0 (goes_into p mask ys x) (omega arith))

pub move_lowest : (p : Plant) (mask : ℕ) (ys : List ℕ) (x u : ℕ) → u < move_into p mask ys x →
    goes_into p mask ys x u ≡ false
unfolding move_into
move_lowest p mask ys x u h = first_before p.moves 0 (goes_into p mask ys x) u (omega arith) h

pub can_by : (p : Plant) (mask : ℕ) (ys : List ℕ) (x u : ℕ) → u < p.moves → goes_into p mask ys x u ≡ true →
    can p mask ys x ≡ true
unfolding can move_into
can_by p mask ys x u l h =
    let k = first_least p.moves 0 (goes_into p mask ys x) u (omega arith) (omega arith) h in
    lt-ltb (first p.moves 0 (goes_into p mask ys x)) p.moves (omega arith)

-- the mask of all such moves has them and no others
pub moves_bit : (p : Plant) (mask : ℕ) (ys : List ℕ) (x u : ℕ) → MovesBelow p →
    bit u (moves_into p mask ys x) ≡ goes_into p mask ys x u
unfolding moves_into
moves_bit p mask ys x u b =
    elim (dec_lt u p.moves) [
      | yes l ↦ bits_at (goes_into p mask ys x) p.moves u l
      | no l ↦
          same_test (bit u (bits p.moves 0 (goes_into p mask ys x))) (goes_into p mask ys x u)
          (λ e. absurd (not_both e (bits_past (goes_into p mask ys x) p.moves 0 u (omega arith))))
          (λ e. absurd (omega (arith, available_below p mask x u b (into_available p mask ys x u e))))
    ]

-- its lowest is the lowest of them
pub moves_lowest : (p : Plant) (mask : ℕ) (ys : List ℕ) (x : ℕ) →
    lowest p.moves (moves_into p mask ys x) ≡ move_into p mask ys x
unfolding moves_into move_into
moves_lowest p mask ys x = lowest_bits p.moves (goes_into p mask ys x)

-- more moves in service and a larger set
pub can_more : (p : Plant) (m n : ℕ) (ys zs : List ℕ) (x : ℕ) → MaskWithin m n → Sub ys zs → can p m ys x ≡ true →
    can p n zs x ≡ true
can_more p m n ys zs x w s h =
    let u = move_into p m ys x in
    let r = can_move p m ys x h in
    can_by p n zs x u r.0
    (into_all p n zs x u (available_more p m n x u w (into_available p m ys x u r.1))
    (λ y e. s y (into_ends p m ys x u r.1 y e)))

-- no move goes wholly into no states
pub can_none : (p : Plant) (mask x : ℕ) → can p mask [] x ≡ true → ⊥
can_none p mask x c =
    let r = can_move p mask [] x c in
    let u = move_into p mask [] x in
    let e = available_end p mask x u (into_available p mask [] x u r.1) in
    is_in_none e.0 (into_ends p mask [] x u r.1 e.0 e.1)

-- where no move goes into the set, each available one has an end outside
pub can_not : (p : Plant) (mask : ℕ) (ys : List ℕ) (x u : ℕ) → MovesBelow p → can p mask ys x ≡ false →
    available p mask x u ≡ true → (y : ℕ) × (is_in y (ends p x u) ≡ true) × (is_in y ys ≡ false)
unfolding goes_into
can_not p mask ys x u b h a =
    ⊎_elim
    (λ t. absurd (not_both (can_by p mask ys x u (available_below p mask x u b a) t) h))
    (λ t. all_in_fails (ends p x u) ys (and_false (available p mask x u) (all_in (ends p x u) ys) t a))
    (decided (goes_into p mask ys x u))
