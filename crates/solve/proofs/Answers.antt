-- What the solver answers, by whether it can work. Assumes nothing.
use mathlib.Core.Path.{◌≡◌, refl, sym, ap, ◌∙◌}
use mathlib.Core.Logic.{⊎_elim}
use mathlib.Core.Bool.{Bool, true, false, ◌&&◌, ◌||◌, not}
use mathlib.Core.List.{List, [], ◌∷◌}
use Prim.Native.Nat.{ℕ, ◌+◌, ◌*◌, ◌≤◌, ◌<◌}
use native.Mathlib.Omega.{arith}
use lib.Dec.{eqb, ltb, leb}
use lib.ListN.{length, get_or, drop_of_length-le}
use borrow.Author.Tests.{eqb-true, eq-eqb, ne_eqb, le-leb, lt-leb, ltb-true, ltb-false, not-false}
use Rattle.std.specs.Prelude.{Some, None}
use Rattle.statements.specs.Sets.{pick, is_in}
use Rattle.statements.specs.Plants.{Plant, plant_of, plant_fault}
use Rattle.statements.specs.Index.{index_bytes, same_bytes}
use Rattle.statements.specs.Kept.{kept_within}
use Rattle.statements.specs.Books.{book_long}
use Rattle.sets.proofs.Tests.{decided, and_true, and_left, and_none, or_neither}
use Rattle.sets.proofs.Members.{is_in_here, is_in_none}
use Rattle.sets.proofs.Iterate.{sifted_few}
use Rattle.kept.proofs.Kept.{kept_sifted, kept_within_lem}
use Rattle.decoding.proofs.Faults.{states_few}
use Rattle.arrays.specs.Lists.{among, rising}
use Rattle.layout.specs.Layout.{table_room}
use Rattle.game.specs.Packed.{places_in}
use Rattle.graph.specs.Packed.{lent, accepts, roomy_pack}
use Rattle.solve.specs.Graphed.{Wide}
use Rattle.solve.specs.Rows.{row_size, rows_long, Rowed, rows_over, solvable, solved_kept, solved_rows}
use Rattle.solve.proofs.RowMarks.{rows_bytes}

-- how many bytes a book has: those of the header and of the rows
long_by : (t : Bool) (s n : ℕ) → book_long t s n ≡ 16 + 2 * (s * pick t (2 * n + 1) (2 * n))
unfolding book_long
long_by true s n = omega arith
long_by false s n = omega arith

pub book_rows : (p : Plant) → book_long p.settles p.states p.goals ≡ 16 + 2 * rows_long p
unfolding rows_long row_size
book_rows p = long_by p.settles p.states p.goals

-- one order fails where the other holds
leb_not : (a b : ℕ) → leb a b ≡ not (ltb b a)
leb_not a b =
    ⊎_elim
    (λ e. lt-leb a b (ltb-true b a e) ∙ ap not (sym e))
    (λ e. le-leb a b (ltb-false b a e) ∙ ap not (sym e))
    (decided (ltb b a))

-- one test holds and the other does not
neither : (a b : Bool) → a && not b ≡ not (not a || b)
neither true b = refl
neither false b = refl

module _ (good : Bool) (s : List ℕ) (mask : ℕ) (start out : List ℕ) where
  -- it cannot work: the mark, and the bytes stay
  pub not_solved : solvable good s start out ≡ false
      → (None ≡ solved_kept good s mask start out) × (out ≡ solved_rows good s mask start out)
  unfolding solved_kept solved_rows
  not_solved e = (rw e, rw e)

  -- it works: the number of kept states, and their rows
  pub solved : solvable good s start out ≡ true
      → let kept = kept_within (plant_of s) mask (among start) in
      (Some (length kept) ≡ solved_kept good s mask start out) × (rows_over (plant_of s) mask kept out ≡ solved_rows good s mask start out)
  unfolding solved_kept solved_rows
  solved e = (rw e, rw e)

  -- the rows are worked out: what the solver answers
  pub done_solved : {r : ℕ} {new : List ℕ} → solvable good s start out ≡ true
      → r ≡ length (kept_within (plant_of s) mask (among start))
      → new ≡ rows_over (plant_of s) mask (kept_within (plant_of s) mask (among start)) out
      → (Some r ≡ solved_kept good s mask start out) × (new ≡ solved_rows good s mask start out)
  done_solved e number rows = let answer = solved e in (ap Some number ∙ answer.0, rows ∙ answer.1)

-- arrays of these lengths have room for a plant with few arrows
pub wide_small : (p : Plant) → length p.arrows ≤ 2048 → Wide p 9218 6145
unfolding table_room places_in
wide_small p few =
    record {
      table_long = omega arith;
      table_room_lem = omega (arith, few);
      graph_long = omega arith;
      graph_room = omega (arith, few);
      graph_few = omega arith;
    }

-- and of these for any
pub wide_large : (p : Plant) → length p.arrows ≤ 8192 → Wide p 33794 18433
unfolding table_room places_in
wide_large p few =
    record {
      table_long = omega arith;
      table_room_lem = omega (arith, few);
      graph_long = omega arith;
      graph_room = omega (arith, few);
      graph_few = omega arith;
    }

-- a plant that is accepted, with an index or without
pub accepts_fine : (indexed : Bool) (index s : List ℕ) → accepts indexed index s ≡ true → plant_fault s ≡ 0
unfolding accepts
accepts_fine indexed index s e = eqb-true (plant_fault s) 0 (and_left (eqb (plant_fault s) 0) _ e)

-- by its parts
pub accepts_not : (indexed : Bool) (index s : List ℕ) → (plant_fault s ≡ 0 → ⊥) → accepts indexed index s ≡ false
unfolding accepts
accepts_not indexed index s bad = rw (ne_eqb (plant_fault s) 0 bad) refl

module _ (index s : List ℕ) (fine : plant_fault s ≡ 0) where
  pub accepts_plain : accepts false index s ≡ true
  unfolding accepts lent
  accepts_plain = rw (eq-eqb (plant_fault s) 0 fine) refl

  pub accepts_lent : accepts true index s ≡ same_bytes index (index_bytes (plant_of s))
  unfolding accepts lent
  accepts_lent = rw (eq-eqb (plant_fault s) 0 fine) refl

-- where there is room for every accepted plant, the arrays are built just if what is lent is accepted
pub built : (indexed : Bool) (index s table graph : List ℕ) {fits : Bool}
    → fits ≡ (accepts indexed index s && roomy_pack (plant_of s) table graph)
    → (plant_fault s ≡ 0 → Wide (plant_of s) (length table) (length graph)) → fits ≡ accepts indexed index s
unfolding roomy_pack
built indexed index s table graph is wide =
    ⊎_elim
    (λ t. let w = wide (accepts_fine indexed index s t) in
    is ∙ rw t
    (and_true (le-leb 1026 (length table) w.table_long)
    (and_true (le-leb (length (plant_of s).arrows) (table_room (length table)) w.table_room_lem)
    (and_true (le-leb 2049 (length graph) w.graph_long)
    (le-leb (length (plant_of s).arrows) (places_in (length graph)) w.graph_room)))))
    (λ f. is ∙ rw f)
    (decided (accepts indexed index s))

-- a start with no state
pub nothing : (xs : List ℕ) → length xs ≡ 0 → xs ≡ []
nothing xs e = drop_of_length-le xs {i = 0} (omega (arith, e))

no_members : (xs : List ℕ) → ((x : ℕ) → is_in x xs ≡ true → ⊥) → xs ≡ []
no_members [] h = refl
no_members (x ∷ xs) h = absurd (h x (is_in_here x xs))

-- keeps none
none_kept : (p : Plant) (mask : ℕ) → kept_within p mask (among []) ≡ []
unfolding among
none_kept p mask =
    no_members (kept_within p mask (among [])) (λ x m. is_in_none x (kept_within_lem p mask (among []) x m).1)

-- at most 1024 states are kept
pub done_few : (s : List ℕ) (mask : ℕ) (start : List ℕ) → plant_fault s ≡ 0
    → {r : ℕ} → r ≡ length (kept_within (plant_of s) mask (among start)) → r ≤ 1024
done_few s mask start fine e =
    let kept = kept_within (plant_of s) mask (among start) in
    omega (arith, states_few s fine, sifted_few (plant_of s).states kept (kept_sifted (plant_of s) mask (among start)))

module _ (good : Bool) (s start out : List ℕ) (states long : ℕ) (es : states ≡ (plant_of s).states)
    (el : long ≡ book_long (plant_of s).settles (plant_of s).states (plant_of s).goals)
    (rises : Bool) (er : rises ≡ rising 0 states start) where
  -- whether the solver can work, by the tests that the start does not rise or the buffer is too short
  room_solvable : solvable good s start out ≡ good && not (not rises || ltb (length out) long)
  unfolding solvable
  room_solvable =
      rw (← book_rows (plant_of s), ← el, ← es, ← er, leb_not long (length out))
      (ap (λ (b : Bool). good && b) (neither rises (ltb (length out) long)))

  -- one holds
  pub short_unsolvable : not rises || ltb (length out) long ≡ true → solvable good s start out ≡ false
  short_unsolvable e =
      room_solvable ∙ ap (λ (b : Bool). good && not b) e ∙ and_none good false refl

  -- neither holds: the start rises, and there is room
  pub fitting : not rises || ltb (length out) long ≡ false
      → (rising 0 (plant_of s).states start ≡ true) × (16 + 2 * rows_long (plant_of s) ≤ length out)
  fitting e =
      let tests = or_neither (not rises) (ltb (length out) long) e in (
        ap (λ (n : ℕ). rising 0 n start) (sym es) ∙ sym er ∙ not-false rises tests.0,
        omega (arith, el, book_rows (plant_of s), ltb-false (length out) long tests.1),
      )

and_all : (a : Bool) → (a && true) ≡ a
and_all true = refl
and_all false = refl

-- with a start that rises, and room for the rows, the solver can work just if what is lent is good
pub fine_solvable : (good : Bool) (s start out : List ℕ) → rising 0 (plant_of s).states start ≡ true
    → 16 + 2 * rows_long (plant_of s) ≤ length out → solvable good s start out ≡ good
unfolding solvable
fine_solvable good s start out rises room =
    ap (λ (b : Bool). good && b) (and_true rises (le-leb (16 + 2 * rows_long (plant_of s)) (length out) room))
    ∙ and_all good

-- no state to start from, and room for the rows
module _ (good : Bool) (s : List ℕ) (mask : ℕ) (out : List ℕ) (room : 16 + 2 * rows_long (plant_of s) ≤ length out) where
  -- what is lent is refused
  pub none_unsolved : good ≡ false → (None ≡ solved_kept good s mask [] out) × (out ≡ solved_rows good s mask [] out)
  unfolding rising
  none_unsolved bad = not_solved good s mask [] out (fine_solvable good s [] out refl room ∙ bad)

  -- it is accepted: none is kept, and marks are all rows
  pub none_solved : {new : List ℕ} → good ≡ true → Rowed (plant_of s) mask [] [] out new
      → ((k : ℕ) → k < length new → get_or new k 0 < 256)
      → (Some 0 ≡ solved_kept good s mask [] out) × (new ≡ solved_rows good s mask [] out)
  unfolding rising
  none_solved fine rows small =
      let kept = none_kept (plant_of s) mask in
      done_solved good s mask [] out (fine_solvable good s [] out refl room ∙ fine) (ap length (sym kept))
      (rows_bytes (plant_of s) mask [] rows small room
      ∙ ap (λ (ys : List ℕ). rows_over (plant_of s) mask ys out) (sym kept))
