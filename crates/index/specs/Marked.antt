-- Marked examples of the check and of what is gathered, on the strip plant P, proved by computation in
-- proofs/Examples.antt. Indexes are written as their two-byte numbers.
use Rattle.std.specs.Prelude.{◌≡◌, true, false, List, [], ◌∷◌, ◌++◌, ℕ, take}
use Rattle.statements.specs.Plants.{plant_of}
use Rattle.statements.specs.Books.{bytes_of}
use Rattle.statements.specs.Marked.{plant_p}
use Rattle.statements.specs.MarkedIndex.{index_p}
use Rattle.index.specs.Checked.{numbers_in, ascends}
use Rattle.index.specs.Gathered.{climbed, taken}

-- a header as that of P's index, and some numbers
unfoldable pub index_of : List ℕ → List ℕ
index_of numbers = bytes_of (4 ∷ (8 ∷ (8 ∷ (24 ∷ numbers))))

-- ten times its number for each arrow
unfoldable pub values : List ℕ
values = 0 ∷ (10 ∷ (20 ∷ (30 ∷ (40 ∷ (50 ∷ (60 ∷ (70 ∷ [])))))))

pub record Marked : Type 0 where
  pub fine : ascends (plant_of plant_p) index_p ≡ true
  -- a tie the wrong way round, a number twice, and a number that no arrow has
  pub falling : ascends (plant_of plant_p) (index_of (6 ∷ 5 ∷ 0 ∷ 1 ∷ 7 ∷ 2 ∷ 3 ∷ 4 ∷ [])) ≡ false
  pub twice : ascends (plant_of plant_p) (index_of (5 ∷ 6 ∷ 0 ∷ 1 ∷ 7 ∷ 2 ∷ 3 ∷ 3 ∷ [])) ≡ false
  pub no_arrow : ascends (plant_of plant_p) (index_of (5 ∷ 6 ∷ 0 ∷ 1 ∷ 7 ∷ 2 ∷ 3 ∷ 8 ∷ [])) ≡ false
  -- arrows by where they start
  pub by_start : ascends (plant_of plant_p) (index_of (0 ∷ 1 ∷ 2 ∷ 3 ∷ 4 ∷ 5 ∷ 6 ∷ 7 ∷ [])) ≡ false
  -- one byte more, and one less
  pub longer : ascends (plant_of plant_p) (index_p ++ (0 ∷ [])) ≡ false
  pub shorter : ascends (plant_of plant_p) (take 23 index_p) ≡ false
  -- what is gathered, and how far it climbs where a number is there twice
  pub gathered : taken values (numbers_in (plant_of plant_p) index_p) ≡ 50 ∷ 60 ∷ 0 ∷ 10 ∷ 70 ∷ 20 ∷ 30 ∷ 40 ∷ []
  pub climb : climbed (plant_of plant_p) 0 (5 ∷ 6 ∷ 0 ∷ 0 ∷ 7 ∷ []) ≡ 5 ∷ 6 ∷ 0 ∷ []
