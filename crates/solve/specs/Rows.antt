-- The rows of a book as numbers, how they stand in its bytes, and what the solver answers.
use Rattle.std.specs.Prelude.{◌≡◌, Option, Some, None, Bool, ◌&&◌, not, List, [], ◌∷◌, ◌++◌, ℕ, ◌+◌, ◌-◌, ◌*◌, ◌≤◌, ◌<◌, eqb, leb, length, get_or, take, drop}
use Rattle.statements.specs.Sets.{pick, joined, iterate, is_in}
use Rattle.statements.specs.Plants.{Plant, plant_of, move_into}
use Rattle.statements.specs.Kept.{forced_all, kept_within, stage_of, wait_of, listed_move}
use Rattle.statements.specs.Books.{lost_mark, bytes_of}
unfoldable pub use Rattle.arrays.specs.Lists.{among, rising}
use Rattle.solve.specs.Given.{below}
use Rattle.solve.specs.Reached.{goes, reached}

-- columns of waits hold the reach to each goal, one goal after the other
pub record Columns (p : Plant) (mask : ℕ) (leave all : List ℕ) (waits : List ℕ) : Type 0 where
  pub wait_is : (x i : ℕ) → x < p.states → i < p.goals → get_or waits (i * p.states + x) 0 ≡ reached p mask leave all i x
  pub room : p.goals * p.states ≤ length waits

-- the states kept when the rounds begin with a set
unfoldable pub kept_from : Plant → ℕ → List ℕ → List ℕ → List ℕ
kept_from p mask leave start = iterate p.states (forced_all p.goals p mask (goes p leave)) start

-- an entry's two numbers, and the rows of a book: each is its stage, if the plant settles, and then its entries
unfoldable pub entry_numbers : Plant → ℕ → List ℕ → ℕ → ℕ → List ℕ
entry_numbers p mask kept x i =
    pick (is_in x kept) (wait_of p mask kept i x ∷ (listed_move p mask kept i x ∷ [])) (lost_mark ∷ (lost_mark ∷ []))

-- a row opens with the stage in a plant that settles
unfoldable pub stage_numbers : Plant → ℕ → List ℕ → ℕ → List ℕ
stage_numbers p mask kept x = pick p.settles (pick (is_in x kept) (stage_of p mask kept x) lost_mark ∷ []) []

unfoldable pub one_row : Plant → ℕ → List ℕ → ℕ → List ℕ
one_row p mask kept x = stage_numbers p mask kept x ++ joined p.goals 0 (entry_numbers p mask kept x)

unfoldable pub row_numbers : Plant → ℕ → List ℕ → List ℕ
row_numbers p mask kept = joined p.states 0 (one_row p mask kept)

-- how many numbers a row has, and all of them
unfoldable pub row_size : Plant → ℕ
row_size p = pick p.settles (2 * p.goals + 1) (2 * p.goals)

unfoldable pub rows_long : Plant → ℕ
rows_long p = p.states * row_size p

-- number m of the rows, as it stands in a book's bytes behind the header
unfoldable pub number_at : List ℕ → ℕ → ℕ
number_at out m = get_or out (16 + 2 * m) 0 + 256 * get_or out (16 + 2 * m + 1) 0

-- nothing but rows is written: the header and the bytes past the rows stay
pub record Around (p : Plant) (old new : List ℕ) : Type 0 where
  pub long : length new ≡ length old
  pub head : take 16 new ≡ take 16 old
  pub rest : drop (16 + 2 * rows_long p) new ≡ drop (16 + 2 * rows_long p) old

-- in a book's bytes stand the rows of some of the states kept, and marks for all others
pub record Rowed (p : Plant) (mask : ℕ) (kept some old new : List ℕ) : Type 0 where
  pub row : (x j : ℕ) → x < p.states → j < row_size p
      → number_at new (x * row_size p + j) ≡ pick (is_in x some) (get_or (one_row p mask kept x) j 0) lost_mark
  pub around : Around p old new

-- the column of goal i
unfoldable pub column_of : Plant → List ℕ → ℕ → List ℕ
column_of p waits i = take (i * p.states + p.states - i * p.states) (drop (i * p.states) waits)

-- a state's own move: that by which it leaves, or the lowest into the states with a wait
unfoldable pub own_move : Plant → ℕ → List ℕ → List ℕ → ℕ → ℕ
own_move p mask leave waits x =
    pick (goes p leave x) (get_or leave x 0) (move_into p mask (below (column_of p waits 0) 65535 p.states) x)

-- the entries of a state told from columns of waits and its own move: wait and move of each goal. The move is the
-- state's own at wait 0, and otherwise the lowest into smaller waits
unfoldable pub entries_of : Plant → ℕ → ℕ → List ℕ → ℕ → List ℕ
entries_of p mask own waits x =
    joined p.goals 0
    (λ i.
    let wait = get_or waits (i * p.states + x) 0 in
    wait ∷ (pick (eqb wait 0) own (move_into p mask (below (column_of p waits i) wait p.states) x) ∷ []))

-- a row: the number for its stage, if the plant settles, and then its entries
unfoldable pub row_of : Plant → ℕ → List ℕ → List ℕ → ℕ → ℕ → List ℕ
row_of p mask leave waits number x =
    pick p.settles (number ∷ []) [] ++ entries_of p mask (own_move p mask leave waits x) waits x

-- a state with a wait and no stage yet
unfoldable pub is_new : List ℕ → List ℕ → ℕ → Bool
is_new waits stage x = not (eqb (get_or waits x 0) lost_mark) && eqb (get_or stage x 0) lost_mark

-- these get the number for their stage, and their rows
pub record Placed (p : Plant) (mask : ℕ) (leave waits : List ℕ) (number : ℕ) (stage old stage' new : List ℕ) : Type 0 where
  pub stage_is : (x : ℕ) → x < p.states → get_or stage' x 0 ≡ pick (is_new waits stage x) number (get_or stage x 0)
  pub stage_long : length stage' ≡ length stage
  pub row_is : (x j : ℕ) → x < p.states → j < row_size p → number_at new (x * row_size p + j)
      ≡ pick (is_new waits stage x) (get_or (row_of p mask leave waits number x) j 0) (number_at old (x * row_size p + j))
  pub around : Around p old new

-- what is lent is good, the start is a rising list of the plant's states, and there is room for the header and the rows
unfoldable pub solvable : Bool → List ℕ → List ℕ → List ℕ → Bool
solvable good s start out =
    good && (rising 0 (plant_of s).states start && leb (16 + 2 * rows_long (plant_of s)) (length out))

-- the number kept, and the bytes with the rows written behind the header; no number, and the bytes as they were, where it
-- cannot work
unfoldable pub solved_kept : Bool → List ℕ → ℕ → List ℕ → List ℕ → Option ℕ
solved_kept good s mask start out =
    pick (solvable good s start out) (Some (length (kept_within (plant_of s) mask (among start)))) None

unfoldable pub rows_over : Plant → ℕ → List ℕ → List ℕ → List ℕ
rows_over p mask kept out = take 16 out ++ (bytes_of (row_numbers p mask kept) ++ drop (16 + 2 * rows_long p) out)

unfoldable pub solved_rows : Bool → List ℕ → ℕ → List ℕ → List ℕ → List ℕ
solved_rows good s mask start out =
    pick (solvable good s start out) (rows_over (plant_of s) mask (kept_within (plant_of s) mask (among start)) out) out
