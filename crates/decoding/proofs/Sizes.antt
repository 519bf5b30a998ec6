-- The ranges of the numbers of states, moves and goals in plants and books, how long a book and a list of states can be,
-- and that buffers with room have it. Assumes nothing.
use mathlib.Core.Path.{◌≡◌, refl, subst}
use mathlib.Core.Logic.{inl, inr}
use mathlib.Core.Bool.{Bool, true, false, not}
use mathlib.Core.List.{List, [], ◌∷◌, ◌++◌, append_assoc}
use Prim.Native.Nat.{ℕ, ◌+◌, ◌*◌, ◌/◌, ◌%◌, ◌≤◌, ◌<◌}
use native.Mathlib.Nat.{suc-mul, mul-le-mul, mul-le-mul_right}
use native.Mathlib.Omega.{arith}
use lib.ListN.{length}
use borrow.Author.Tests.{leb-true, eqb-true, eq-eqb, ne_eqb}
use Rattle.statements.specs.Sets.{numbers}
use Rattle.statements.specs.Plants.{Plant}
use Rattle.statements.specs.Books.{two, bytes_of, book_long, book_states, book_goals, book_total, staged, row_place}
use Rattle.statements.specs.Books.{row_long, entry_place, is_lost, book_kept, dropped_states}
use Rattle.sets.proofs.Tests.{decided}
use Rattle.statements.specs.Calls.{book_room, drop_room}
use Rattle.sets.proofs.Members.{filter_length, length_numbers}

pub record Sizes (states moves goals : ℕ) : Type 0 where
  pub states_least : 1 ≤ states
  pub states_most : states ≤ 1024
  pub moves_least : 1 ≤ moves
  pub moves_most : moves ≤ 32
  pub goals_least : 1 ≤ goals
  pub goals_most : goals ≤ 8

-- the entries of a book for so many, and its length
module _ {states moves goals : ℕ} (z : Sizes states moves goals) where
  pub entries_most : states * goals ≤ 1024 * 8
  entries_most = mul-le-mul z.states_most z.goals_most

  -- with stages or without
  pub long_most : (t : Bool) → book_long t states goals ≤ 34832
  unfolding book_long
  long_most true = omega (arith, entries_most)
  long_most false = omega (arith, entries_most)

-- how many bytes a row opens with: none, or a stage
unfoldable pub opening : Bool → ℕ
opening false = 0
opening true = 2

-- a book is its header and rows of one length
pub long_is : (t : Bool) (s n : ℕ) → book_long t s n ≡ 16 + s * (opening t + n * 4)
unfolding book_long opening
long_is true s n = omega arith
long_is false s n = omega arith

-- the length tells the sorts apart
pub staged_of : (b : List ℕ) (t : Bool) → book_total b ≡ book_long t (book_states b) (book_goals b) → 0 < book_states b →
    staged b ≡ t
unfolding staged book_long
staged_of b true e l = eq-eqb _ _ e
staged_of b false e l =
    let n = book_goals b in
    ne_eqb (book_total b) (16 + (2 * book_states b + 4 * (book_states b * n))) (omega arith)

pub staged_total : (b : List ℕ) → staged b ≡ true → book_total b ≡ book_long true (book_states b) (book_goals b)
unfolding staged
staged_total b e = eqb-true _ _ e

-- where rows and entries stand
pub row_place_lem : (b : List ℕ) (x : ℕ) → row_place b x ≡ 16 + x * (opening (staged b) + book_goals b * 4)
unfolding row_place opening
row_place_lem b x =
    elim (decided (staged b)) [
      | inl e ↦ rw e (omega arith)
      | inr e ↦ rw e (omega arith)
    ]

pub entry_place_lem : (b : List ℕ) (x i : ℕ) →
    entry_place b x i ≡ 16 + (x * (opening (staged b) + book_goals b * 4) + (opening (staged b) + i * 4))
unfolding entry_place opening
entry_place_lem b x i =
    elim (decided (staged b)) [
      | inl e ↦ rw e (omega arith)
      | inr e ↦ rw e (omega arith)
    ]

-- how long a row is, and that a state's row ends before the next state's
pub row_long_lem : (b : List ℕ) → row_long b ≡ opening (staged b) + book_goals b * 4
unfolding row_long opening
row_long_lem b =
    elim (decided (staged b)) [
      | inl e ↦ rw e (omega arith)
      | inr e ↦ rw e (omega arith)
    ]

pub row_within : {s : ℕ} (x n : ℕ) → x < s → x * n + n ≤ s * n
row_within {s} x n h = subst (λ (k : ℕ). k ≤ s * n) (suc-mul x n) (mul-le-mul_right n h)

-- two bytes for each number
pub bytes_length : (xs : List ℕ) → length (bytes_of xs) ≡ 2 * length xs
unfolding bytes_of two
bytes_length [] = refl
bytes_length (x ∷ xs) = omega (arith, bytes_length xs)

-- a low byte and a high one are the bytes of the number that they come to
pub two_of : (a b : ℕ) → a < 256 → two (a + 256 * b) ≡ a ∷ (b ∷ [])
unfolding two
two_of a b h =
    let low : (a + 256 * b) % 256 ≡ a = omega arith in
    let high : (a + 256 * b) / 256 ≡ b = omega arith in
    rw (low, high)

-- the bytes of one list's numbers, then of another's
pub bytes_append : (xs ys : List ℕ) → bytes_of (xs ++ ys) ≡ bytes_of xs ++ bytes_of ys
unfolding bytes_of
bytes_append [] ys = refl
bytes_append (x ∷ xs) ys = rw (bytes_append xs ys, append_assoc)

-- a book keeps no more states than it has, and no more are dropped
pub kept_few : (b : List ℕ) → length (book_kept b) ≤ book_states b
unfolding book_kept
kept_few b =
    omega (
      arith,
      filter_length (λ x. not (is_lost b x)) (numbers (book_states b) 0),
      length_numbers (book_states b) 0,
    )

pub dropped_few : (before after : List ℕ) → length (dropped_states before after) ≤ book_states before
unfolding dropped_states
dropped_few before after = omega (arith, filter_length (is_lost after) (book_kept before), kept_few before)

-- a buffer that the checks accept has room
module _ (p : Plant) (room : ℕ) where
  pub book_fits : book_room p room ≡ true → book_long p.settles p.states p.goals ≤ room
  unfolding book_room
  book_fits h = leb-true _ _ h

  pub drops_fit : drop_room p room ≡ true → 2 * p.states ≤ room
  unfolding drop_room
  drops_fit h = leb-true _ _ h
