-- A state's row as it is read from the part of a book that is handed back.
use Rattle.std.specs.Prelude.{◌≡◌, true, List, [], ℕ, ◌+◌, ◌*◌, ◌≤◌, ◌<◌, length, get_or}
use Rattle.statements.specs.Sets.{pick}
use Rattle.statements.specs.Plants.{word}
use Rattle.statements.specs.Books.{book_goals, staged, wait_at, move_at, stage_at}
use Rattle.statements.specs.Calls.{consult_fault}
use Rattle.promises.specs.Says.{row_start, RowSays}

-- how many numbers stand in a row before its entries: one, the stage, in a book with stages
abbrev pub opens : List ℕ → ℕ
opens b = pick (staged b) 1 0

-- the row of state x in a book b is two-byte numbers: the stage if there are stages, then each goal's wait and move
pub record RowReads (b : List ℕ) (x : ℕ) (row : List ℕ) : Type 0 where
  -- it has 4N bytes, and two more for a stage
  pub size : length row ≡ 2 * opens b + 4 * book_goals b
  pub stage : staged b ≡ true → word 0 row ≡ stage_at b x
  pub wait : (i : ℕ) → i < book_goals b → word (opens b + 2 * i) row ≡ wait_at b x i
  pub move : (i : ℕ) → i < book_goals b → word (opens b + 2 * i + 1) row ≡ move_at b x i
  -- it stands within the book, each byte at its place
  pub within : row_start b x + length row ≤ length b
  pub each : (k : ℕ) → k < length row → get_or row k 0 ≡ get_or b (row_start b x + k) 0

-- any row that is handed back reads so; a refused call hands back no byte
pub record Rows : Type 0 where
  pub reads : {b row : List ℕ} {x : ℕ} {lent part : ℕ × ℕ} → RowSays b x lent row part → consult_fault b x 0 ≡ 0 →
      RowReads b x row
  pub refused : {b row : List ℕ} {x : ℕ} {lent part : ℕ × ℕ} → RowSays b x lent row part →
      (consult_fault b x 0 ≡ 0 → ⊥) → row ≡ []
