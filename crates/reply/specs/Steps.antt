-- What the steps behind the reply promise: a book of the plant in a buffer of just its length, and its text.
use Rattle.std.specs.Prelude.{◌≡◌, List, ℕ, ◌≤◌, eqb, length, take, drop}
use Rattle.statements.specs.Sets.{pick}
use Rattle.statements.specs.Plants.{plant_of, plant_fault}
use Rattle.statements.specs.Books.{book_long}
use Rattle.listing.specs.Text.{refused_text, bad_masks_text}
use Rattle.listing.specs.Buffers.{placed, placed_long}
use Rattle.reply.specs.Reply.{plant_part, mask_part, Outcome, refused, lists, in_turn, outcome_text}

-- the input's first bytes, as many as given, are the plant's, and the rest are the masks'
pub record Parted (input : List ℕ) (end : ℕ) : Type 0 where
  pub within : end ≤ length input
  pub plant : take end input ≡ plant_part input
  pub masks : drop end input ≡ mask_part input

-- the book buffer has just the length of the books of the plant s
pub record Ready (s b : List ℕ) : Type 0 where
  pub long : length b ≡ book_long (plant_of s).settles (plant_of s).states (plant_of s).goals

-- what good masks with a plant come to: the plant's number when it is refused, otherwise what they come to in turn
unfoldable pub outcome_of : List ℕ → List ℕ → Outcome
outcome_of s m = pick (eqb (plant_fault s) 0) (in_turn (plant_of s) m) (refused (plant_fault s))

-- the answer with bad masks: the plant's number when it is refused, otherwise that they are bad
unfoldable pub bad_text : List ℕ → List ℕ
bad_text s = pick (eqb (plant_fault s) 0) bad_masks_text (refused_text (plant_fault s))

-- what the masks come to, by the number returned and the book left
unfoldable pub came_to : ℕ → List ℕ → Outcome
came_to r b = pick (eqb r 0) (lists b) (refused r)

-- what good masks with a plant come to is written, as many bytes as returned
pub record Told (s m o : List ℕ) (r : ℕ) (o' : List ℕ) : Type 0 where
  pub long : r ≡ placed_long (outcome_text (outcome_of s m)) o
  pub bytes : o' ≡ placed (outcome_text (outcome_of s m)) o
