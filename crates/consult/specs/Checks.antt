-- Where a move may lead, by a part of the rule of an entry, the test of the end of an arrow, and where the arrows from a
-- rank or a state on begin, which only functions inside this crate promise.
use Rattle.std.specs.Prelude.{Bool, ◌&&◌, ◌||◌, not, List, ℕ, ◌+◌, ◌*◌, ◌≤◌, ◌<◌, eqb, ltb}
use Rattle.statements.specs.Sets.{filter}
use Rattle.statements.specs.Plants.{word}
use Rattle.statements.specs.Books.{book_states, stage_at, wait_at, is_lost, book_kept}
use Rattle.format.specs.Arrows.{arrow_in}

-- state y is of an earlier stage than the one given, or, unless only these count, of that stage and above wait 0 with a
-- smaller wait for goal i
unfoldable pub closer : List ℕ → ℕ → ℕ → ℕ → Bool → ℕ → Bool
closer b stage wait i early y =
    ltb (stage_at b y) stage || (not early && (eqb (stage_at b y) stage && (eqb wait 0 || ltb (wait_at b y i) wait)))

-- a book keeps such a state
unfoldable pub nearer_than : List ℕ → ℕ → ℕ → ℕ → Bool → ℕ → Bool
nearer_than b stage wait i early y = ltb y (book_states b) && (not (is_lost b y) && closer b stage wait i early y)

-- the states of earlier stages than that of state x, or those of the rule of its entry for goal i
unfoldable pub leads_in : List ℕ → Bool → ℕ → ℕ → List ℕ
leads_in b early x i = filter (closer b (stage_at b x) (wait_at b x i) i early) (book_kept b)

-- the number by which arrow k of a plant is compared with others
abbrev pub rank_in : List ℕ → ℕ → ℕ
rank_in s k = let a = arrow_in s k in 65536 * (65536 * a.from) + (65536 * a.action + a.to)

-- the arrows of a plant before arrow k are of a lower rank than one given, and those from it on are not
pub record Reaches (s : List ℕ) (rank k : ℕ) : Type 0 where
  pub within : k ≤ word 3 s
  pub before : (j : ℕ) → j < k → rank_in s j < rank
  pub after : (j : ℕ) → k ≤ j → j < word 3 s → rank ≤ rank_in s j

-- they start before state x, and those from arrow k on start there or past it
pub record Begins (s : List ℕ) (x k : ℕ) : Type 0 where
  pub within : k ≤ word 3 s
  pub before : (j : ℕ) → j < k → (arrow_in s j).from < x
  pub after : (j : ℕ) → k ≤ j → j < word 3 s → x ≤ (arrow_in s j).from
