-- What a preview has to do with the withdrawal: both contracts against each other.
use Rattle.std.specs.Prelude.{◌≡◌, List, ℕ, ◌+◌, ◌≤◌, length, take}
use Rattle.promises.specs.Answers.{Answer}
use Rattle.promises.specs.Answers.{Cost}
use Rattle.statements.specs.Plants.{words, plant_of}
use Rattle.statements.specs.Books.{book_long, book_count, withdrawn_book}
use Rattle.promises.specs.Says.{WithdrawSays, PreviewSays, Lists}

-- an accepted withdrawal, with the drop buffer d, and an accepted preview, with e: as many states dropped, the same
-- list, in equal buffers the same bytes, and K of the book written, the first bytes of o'
pub record Agree (o' d d' e e' : List ℕ) (r : Answer) (c : Cost) : Type 0 where
  pub drops : c.drops ≡ r.drops
  pub list : words c.drops e' ≡ words r.drops d'
  pub buffer : e ≡ d → e' ≡ d'
  pub kept : c.kept ≡ book_count (take r.length o')

pub record Previews : Type 0 where
  -- a withdrawal and a preview of it answer the same number, when the drop buffers are as long and the book buffer is
  -- long enough
  pub number : {s b o o' d d' e e' : List ℕ} {gone : ℕ} {r : Answer} {c : Cost} →
      WithdrawSays s b gone o o' d d' r → PreviewSays s b gone e e' c → length e ≡ length d →
      book_long (plant_of s).settles (plant_of s).states (plant_of s).goals ≤ length o → c.number ≡ r.number
  -- accepted, they agree
  pub agree : {s b o o' d d' e e' : List ℕ} {gone : ℕ} {r : Answer} {c : Cost} →
      WithdrawSays s b gone o o' d d' r → PreviewSays s b gone e e' c → r.number ≡ 0 → c.number ≡ 0 →
      Agree o' d d' e e' r c
  -- the list, read against the book that the withdrawal would write
  pub listed : {s b d d' : List ℕ} {gone : ℕ} {c : Cost} → PreviewSays s b gone d d' c → c.number ≡ 0 →
      Lists s b (withdrawn_book (plant_of s) b gone) d d' c.drops
  -- the states that would be dropped and those still kept are together those that the book keeps
  pub adds_up : {s b d d' : List ℕ} {gone : ℕ} {c : Cost} → PreviewSays s b gone d d' c → c.number ≡ 0 →
      c.drops + c.kept ≡ book_count b
