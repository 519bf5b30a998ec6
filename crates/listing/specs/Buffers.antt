-- A text in a buffer: written from the first byte on where it fits, and the place that a writer comes to.
use Rattle.std.specs.Prelude.{◌≡◌, Bool, List, ℕ, ◌+◌, leb, length}
use Rattle.std.proofs.lemmas.List.Edits.{sets}
use Rattle.statements.specs.Sets.{pick, over}

-- the text is no longer than the buffer
unfoldable pub has_room : List ℕ → List ℕ → Bool
has_room text o = leb (length text) (length o)

-- a buffer after a text is written from its first byte on, the bytes past it left; unchanged where it does not fit
unfoldable pub placed : List ℕ → List ℕ → List ℕ
placed text o = pick (has_room text o) (over text o) o

-- how many bytes were written: the text's length, or 0 where it does not fit
unfoldable pub placed_long : List ℕ → List ℕ → ℕ
placed_long text o = pick (has_room text o) (length text) 0

-- a writer put a text at a place, byte by byte, those past the buffer's end left out, and came to the place after it
pub record Wrote (before : List ℕ) (at : ℕ) (text : List ℕ) (next : ℕ) (after : List ℕ) : Type 0 where
  pub place : next ≡ at + length text
  pub bytes : after ≡ sets before at text
