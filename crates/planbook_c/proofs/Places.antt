-- What the gauge call answers, as 32-bit numbers. Assumes nothing.
use mathlib.Core.Path.{◌∙◌, ap}
use mathlib.Core.Bool.{Bool}
use mathlib.Core.List.{List}
use Prim.Native.Nat.{ℕ}
use lib.ListN.{get_or}
use lib.Ieee.{Float}
use Rattle.statements.specs.Sets.{pick}
use Rattle.gauge.specs.Bands.{deviation_of, band_at, PlaceSays}
use Rattle.gauge.specs.Bands as answered
use Rattle.planbook_c.specs.declared.Place.{Place}
use Rattle.planbook_c.specs.Flat.{FlatPlace, PlaceIs}

-- with 1 where a band holds the deviation
pub place_is : {kinds : List ℕ} {ends : List Float} {states : List ℕ} {s : ℕ} {reading aim : Float}
    {p : answered.Place} {f : Place} → PlaceSays kinds ends states s reading aim p → FlatPlace p f →
    PlaceIs kinds ends states s reading aim f
place_is {kinds} {ends} {states} {s} {reading} {aim} says flat =
    let there = get_or states (band_at kinds ends states (deviation_of reading aim)) 0 in
    record {
      number = flat.number ∙ says.number;
      found = flat.found ∙ ap (λ (t : Bool). pick t 1 0) says.found;
      state = flat.state ∙ says.state ∙ ap (λ (t : Bool). pick t there 0) says.found;
    }
