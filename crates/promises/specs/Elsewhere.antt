-- Request (x) of calls as they went: the row of a state in the books that two plants' calls wrote.
use Rattle.std.specs.Prelude.{◌≡◌, List, ℕ, ◌<◌, take}
use Rattle.promises.specs.Answers.{Answer}
use Rattle.statements.specs.Plants.{plant_of}
use Rattle.statements.specs.Calls.{row_part}
use Rattle.statements.specs.Elsewhere.{AgreeFrom, SameFigures}
use Rattle.promises.specs.Says.{RowSays}
use Rattle.promises.specs.Traces.{AnyMake, Begun, book_after, service_after}

pub record ElsewhereTraced : Type 0 where
  -- of two accepted makes with one mask, each without an index or by one: if the plants agree on every state reachable
  -- from x, the row of x is the same in the first bytes of both book buffers, as many as each make returned
  pub same_row : {s t o o' q q' : List ℕ} {mask : ℕ} {r v : Answer} (x : ℕ) → AnyMake s mask o o' r →
      AnyMake t mask q q' v → r.number ≡ 0 → v.number ≡ 0 → SameFigures (plant_of s) (plant_of t) →
      x < (plant_of s).states → AgreeFrom (plant_of s) (plant_of t) mask x →
      row_part (take r.length o') x ≡ row_part (take v.length q') x
  -- of two traces, one on each plant, that end with the same moves in service: it is the same in the standing books
  pub after_calls : (s t : List ℕ) (a : Begun s) (b : Begun t) (x : ℕ) → SameFigures (plant_of s) (plant_of t) →
      service_after s a ≡ service_after t b → x < (plant_of s).states →
      AgreeFrom (plant_of s) (plant_of t) (service_after s a) x → row_part (book_after s a) x ≡ row_part (book_after t b) x
  -- and the row that is then handed back is the same
  pub handed_back : {s t row other : List ℕ} {x : ℕ} {lent part other_lent other_part : ℕ × ℕ} (a : Begun s)
      (b : Begun t) → SameFigures (plant_of s) (plant_of t) → service_after s a ≡ service_after t b →
      x < (plant_of s).states → AgreeFrom (plant_of s) (plant_of t) (service_after s a) x →
      RowSays (book_after s a) x lent row part → RowSays (book_after t b) x other_lent other other_part → row ≡ other
