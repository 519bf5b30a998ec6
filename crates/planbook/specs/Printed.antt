-- What the program hands to write, told from what its reading left in the input buffer.
use Rattle.std.specs.Prelude.{◌≡◌, Bool, true, false, List, [], ℕ, length, take}
use Rattle.reply.specs.Reply.{reply_to}

-- the text for an input buffer that so many bytes were read into: where these are the whole input, or as much of it as
-- the buffer holds, the text is the answer to the whole input; after a failed read it is empty
pub record Printed (buffer : List ℕ) (count : ℕ) (failed : Bool) (text : List ℕ) : Type 0 where
  pub answer : failed ≡ false → (whole : List ℕ) → take count buffer ≡ take (length buffer) whole
      → text ≡ reply_to whole
  pub nothing : failed ≡ true → text ≡ []
