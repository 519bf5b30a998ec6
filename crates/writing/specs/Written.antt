-- What the writer returns, and what it leaves in a book buffer and in a drop buffer.
use Rattle.std.specs.Prelude.{Bool, ◌&&◌, List, ℕ, ◌*◌, leb, length, Option, Some, None}
use Rattle.statements.specs.Sets.{pick, over}
use Rattle.statements.specs.Plants.{plant_of}
use Rattle.statements.specs.Books.{bytes_of, book_long, book_states, book_within, dropped_states}
use Rattle.solve.specs.Rows.{among, rising}

-- what is lent is good, the start is a rising list of the plant's states, and there is room for the book
unfoldable pub writable : Bool → List ℕ → List ℕ → List ℕ → Bool
writable good s start o =
    good
    && (rising 0 (plant_of s).states start
    && leb (book_long (plant_of s).settles (plant_of s).states (plant_of s).goals) (length o))

-- the book's length, and the buffer with the book written; None and nothing where it cannot be written
unfoldable pub written_long : Bool → List ℕ → List ℕ → List ℕ → Option ℕ
written_long good s start o =
    pick (writable good s start o) (Some (book_long (plant_of s).settles (plant_of s).states (plant_of s).goals)) None

unfoldable pub written_book : Bool → List ℕ → ℕ → List ℕ → List ℕ → List ℕ
written_book good s mask start o =
    pick (writable good s start o) (over (book_within (plant_of s) mask (among start)) o) o

-- room in a drop buffer for every state of a book
unfoldable pub listable : List ℕ → List ℕ → Bool
listable before d = leb (2 * book_states before) (length d)

-- how many states are dropped, and the buffer with their numbers written; 0 and nothing without that room
unfoldable pub dropped_count : List ℕ → List ℕ → List ℕ → ℕ
dropped_count before after d = pick (listable before d) (length (dropped_states before after)) 0

unfoldable pub written_drops : List ℕ → List ℕ → List ℕ → List ℕ
written_drops before after d = pick (listable before d) (over (bytes_of (dropped_states before after)) d) d
