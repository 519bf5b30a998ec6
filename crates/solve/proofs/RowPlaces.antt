-- The rows of the states with a wait and no stage yet, placed state by state, and added to the rows that stand.
-- Assumes nothing.
use mathlib.Core.Path.{◌≡◌, refl, sym, ap, ◌∙◌}
use mathlib.Core.Logic.{⊎_elim}
use mathlib.Core.Bool.{Bool, true, false, ◌&&◌, ◌||◌, not}
use mathlib.Core.List.{List}
use Prim.Native.Nat.{ℕ, ◌+◌, ◌*◌, ◌≤◌, ◌<◌}
use native.Mathlib.Omega.{arith}
use lib.Dec.{eqb}
use lib.ListN.{length, get_or, set, length-set}
use lib.Seq.{sets, get_or-set_same, get_or-set_other}
use Rattle.statements.specs.Sets.{pick, is_in}
use Rattle.statements.specs.Plants.{Plant}
use Rattle.statements.specs.Books.{lost_mark, bytes_of}
use Rattle.sets.proofs.Tests.{decided, same_number, or_right}
use Rattle.decoding.proofs.Sizes.{row_within}
use Rattle.solve.specs.Rows.{row_size, rows_long, number_at, one_row, Around, Rowed, row_of, is_new, Placed}
use Rattle.solve.proofs.RowBytes.{around_none, around_next, row_here, row_other, row_around}
use Rattle.solve.proofs.RowEntries.{row_size_lem}

-- the rows of the new ones of the states below x are placed
pub record PlacedTo (p : Plant) (mask : ℕ) (leave waits : List ℕ) (number : ℕ) (stage old stage' new : List ℕ) (x : ℕ)
    : Type 0 where
  pub stage_done : (y : ℕ) → y < x → get_or stage' y 0 ≡ pick (is_new waits stage y) number (get_or stage y 0)
  pub stage_todo : (y : ℕ) → x ≤ y → get_or stage' y 0 ≡ get_or stage y 0
  pub stage_long : length stage' ≡ length stage
  pub row_done : (y j : ℕ) → y < x → j < row_size p → number_at new (y * row_size p + j)
      ≡ pick (is_new waits stage y) (get_or (row_of p mask leave waits number y) j 0) (number_at old (y * row_size p + j))
  pub row_todo : (y j : ℕ) → x ≤ y → j < row_size p
      → number_at new (y * row_size p + j) ≡ number_at old (y * row_size p + j)
  pub around : Around p old new

module _ {p : Plant} {mask : ℕ} {leave waits : List ℕ} {number : ℕ} {stage old : List ℕ} where
  -- none yet
  pub placed_none : PlacedTo p mask leave waits number stage old stage old 0
  placed_none =
      record {
        stage_done = λ y h. absurd (omega arith);
        stage_todo = λ y h. refl;
        stage_long = refl;
        row_done = λ y j h l. absurd (omega arith);
        row_todo = λ y j h l. refl;
        around = around_none;
      }

  module _ {stage' new : List ℕ} {x : ℕ} (r : PlacedTo p mask leave waits number stage old stage' new x) where
    -- a state that is not new is passed over
    pub placed_skip : is_new waits stage x ≡ false → PlacedTo p mask leave waits number stage old stage' new (x + 1)
    placed_skip n =
        record {
          stage_done = λ y h.
              ⊎_elim
              (λ e. rw e (rw n (r.stage_todo x (omega arith))))
              (λ d. r.stage_done y (omega arith))
              (same_number y x);
          stage_todo = λ y h. r.stage_todo y (omega arith);
          stage_long = r.stage_long;
          row_done = λ y j h l.
              ⊎_elim
              (λ e. rw e (rw n (r.row_todo x j (omega arith) l)))
              (λ d. r.row_done y j (omega arith) l)
              (same_number y x);
          row_todo = λ y j h l. r.row_todo y j (omega arith) l;
          around = r.around;
        }

    -- the test of a turn
    pub new_now : {b : Bool} → (not (eqb (get_or waits x 0) lost_mark) && eqb (get_or stage' x 0) lost_mark) ≡ b
        → is_new waits stage x ≡ b
    unfolding is_new
    new_now e =
        ap (λ (v : ℕ). not (eqb (get_or waits x 0) lost_mark) && eqb v lost_mark) (sym (r.stage_todo x (omega arith))) ∙ e

    -- one that is gets the number and its row
    pub placed_put : {stage'' new' : List ℕ} (size : ℕ) → size ≡ row_size p → is_new waits stage x ≡ true → x < p.states
        → p.states ≤ length stage → 16 + 2 * rows_long p ≤ length old → stage'' ≡ set stage' x number
        → new' ≡ sets new (16 + 2 * (x * size)) (bytes_of (row_of p mask leave waits number x))
        → PlacedTo p mask leave waits number stage old stage'' new' (x + 1)
    unfolding rows_long
    placed_put many e n h stages room es en =
        let size = row_size p in
        let row = row_of p mask leave waits number x in
        let put = en ∙ ap (λ (m : ℕ). sets new (16 + 2 * (x * m)) (bytes_of row)) e in
        let long = row_size_lem p mask leave waits number x in
        let inside = row_within {s = p.states} x size h in
        let here = row_here size x row new long (omega (arith, r.around.long)) in
        let other = row_other size x row new long in
        rw (es, put)
        (record {
          stage_done = λ y l.
              ⊎_elim
              (λ e. rw e (rw n (get_or-set_same stage' x number 0 (omega (arith, r.stage_long)))))
              (λ d. get_or-set_other stage' x y number 0 d ∙ r.stage_done y (omega arith))
              (same_number y x);
          stage_todo = λ y l.
              get_or-set_other stage' x y number 0 (λ e. omega arith) ∙ r.stage_todo y (omega arith);
          stage_long = length-set stage' x number ∙ r.stage_long;
          row_done = λ y j l k.
              ⊎_elim
              (λ e. rw e (rw n (here j k)))
              (λ d. other y j d k ∙ r.row_done y j (omega arith) k)
              (same_number y x);
          row_todo = λ y j l k. other y j (λ e. omega arith) k ∙ r.row_todo y j (omega arith) k;
          around = around_next r.around (row_around size x row new long p refl h);
        })

    -- all of them
    pub placed_all : p.states ≤ x → Placed p mask leave waits number stage old stage' new
    placed_all h =
        record {
          stage_is = λ y l. r.stage_done y (omega arith);
          stage_long = r.stage_long;
          row_is = λ y j l k. r.row_done y j (omega arith) k;
          around = r.around;
        }

-- a disjunction is its first part where the second fails
or_none : (a b : Bool) → b ≡ false → (a || b) ≡ a
or_none true b e = refl
or_none false b e = e

-- placing goes on from what stands
pub rowed_placed : {p : Plant} {mask number : ℕ} {kept some more old rows new leave waits stage stage' : List ℕ}
    → Rowed p mask kept some old rows → Placed p mask leave waits number stage rows stage' new
    → ((x : ℕ) → x < p.states → is_in x more ≡ (is_in x some || is_new waits stage x))
    → ((x : ℕ) → x < p.states → is_new waits stage x ≡ true
    → row_of p mask leave waits number x ≡ one_row p mask kept x)
    → Rowed p mask kept more old new
rowed_placed {p} {mask} {number} {kept} {some} {more} {rows = rows} {leave = leave} {waits} {stage} r s member row =
    record {
      row = λ x j h l.
          s.row_is x j h l
          ∙ ⊎_elim
          (λ n.
          let yes = member x h ∙ or_right (is_in x some) (is_new waits stage x) n in
          rw (n, yes) (ap (λ (ys : List ℕ). get_or ys j 0) (row x h n)))
          (λ n.
          let same = member x h ∙ or_none (is_in x some) (is_new waits stage x) n in
          rw (n, same) (r.row x j h l))
          (decided (is_new waits stage x));
      around = around_next r.around s.around;
    }
