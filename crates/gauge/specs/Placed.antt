-- Request (xi) in its own words: what a table in order is, and what the call's answers come to, for numbers of
-- millimetres as they are and not as a machine compares them.
use Rattle.std.specs.Prelude.{◌≡◌, Option, Result, true, false, List, ◌↔◌, ℕ, ◌*◌, ◌≤◌, ◌<◌, length, get_or, Float}
use Rattle.std.specs.Float.{binary64}
use Rattle.std.specs.Float.Ieee.{fits, le, lt}
use Rattle.gauge.specs.Numbers.{Number, Below, AtMost, less, apart, is_finite, value_of}
use Rattle.gauge.specs.Bands.{band_of, deviation_of, PlaceSays}
use Rattle.gauge.specs.declared.End.{End}
use Rattle.gauge.specs.declared.End.TheVariants.{Open, At}
use Rattle.gauge.specs.declared.Band.{Band}
use Rattle.gauge.specs.Bands.{Place, place_of}
use Rattle.refusal.specs.declared.Refusal.{Refusal}

-- an end is open without limit or a finite number
abbrev pub IsEnd : End → Type 0
IsEnd Open = Unit {0}
IsEnd (At x) = is_finite x ≡ true

-- a number is not below a lower end
abbrev pub From : End → Number → Type 0
From Open p = Unit {0}
From (At x) p = AtMost (value_of x) p

-- a number is below an upper end
abbrev pub Under : End → Number → Type 0
Under Open p = Unit {0}
Under (At x) p = Below p (value_of x)

-- a number lies in a band: the lower end is included, the upper one is not
abbrev pub In : Band → Number → Type 0
In b p = From b.lower p × Under b.upper p

-- a table of n bands in order, with states below s
pub record InOrder (n : ℕ) (band : ℕ → Band) (s : ℕ) : Type 0 where
  -- 1 to 64 bands
  pub some : 1 ≤ n
  pub few : n ≤ 64
  -- no end is infinite or undefined
  pub lower : (i : ℕ) → i < n → IsEnd (band i).lower
  pub upper : (i : ℕ) → i < n → IsEnd (band i).upper
  -- no band is empty: some number lies in it
  pub not_empty_lem : (i : ℕ) → i < n → (p : Number) × In (band i) p
  -- they rise without overlap: every number in a band is below every number in a later one
  pub rise : (i j : ℕ) → i < j → j < n → (p q : Number) → In (band i) p → In (band j) q → Below p q
  pub states : (i : ℕ) → i < n → (band i).state < s

-- a table lent as three lists: they fit one another, each kind is 0 or 1, and the bands are in order
pub record Table (kinds : List ℕ) (ends : List Float) (states : List ℕ) (s : ℕ) : Type 0 where
  pub kinds_long : length kinds ≡ 2 * length states
  pub ends_long : length ends ≡ 2 * length states
  pub kinds_known : (i : ℕ) → i < length kinds → get_or kinds i 0 ≤ 1
  pub in_order : InOrder (length states) (band_of kinds ends states) s

-- reading, aim and deviation are finite
pub record Readable (reading aim : Float) : Type 0 where
  pub reading_finite : is_finite reading ≡ true
  pub aim_finite : is_finite aim ≡ true
  pub deviation_finite : is_finite (deviation_of reading aim) ≡ true

-- the machine's comparisons of finite floats are the order of the numbers that they stand for
pub record Compared : Type 0 where
  pub at_most : (x y : Float) → is_finite x ≡ true → is_finite y ≡ true → (le x y ≡ true) ↔ AtMost (value_of x) (value_of y)
  pub below : (x y : Float) → is_finite x ≡ true → is_finite y ≡ true → (lt x y ≡ true) ↔ Below (value_of x) (value_of y)

-- what an answer comes to, for a table, S, a reading and an aim
pub record Means (kinds : List ℕ) (ends : List Float) (states : List ℕ) (s : ℕ) (reading aim : Float)
    (r : Place) : Type 0 where
  -- 11 exactly where the table is not in order; then 12 exactly where reading, aim or deviation is not finite
  pub eleven : (r.number ≡ 11) ↔ (Table kinds ends states s → ⊥)
  pub twelve : (r.number ≡ 12) ↔ (Table kinds ends states s × (Readable reading aim → ⊥))
  pub accepted : (r.number ≡ 0) ↔ (Table kinds ends states s × Readable reading aim)
  -- an accepted call gives the state of the band in which the deviation lies
  pub band : r.number ≡ 0 → (i : ℕ) → i < length states →
      In (band_of kinds ends states i) (value_of (deviation_of reading aim)) →
      (r.found ≡ true) × (r.state ≡ (band_of kinds ends states i).state)
  -- and it gives no other: none in a gap, and none where it is refused
  pub only : r.found ≡ true → (r.number ≡ 0) × ((i : ℕ) × ((i < length states) ×
      (In (band_of kinds ends states i) (value_of (deviation_of reading aim)) ×
      (r.state ≡ (band_of kinds ends states i).state))))
  -- a state that it gives is below the S given, and where it gives none the field is 0
  pub inside : r.found ≡ true → r.state < s
  pub none : r.found ≡ false → r.state ≡ 0

pub record Placed : Type 0 where
  -- in a table in order at most one band holds a number
  pub one : (kinds : List ℕ) (ends : List Float) (states : List ℕ) (s : ℕ) → Table kinds ends states s →
      (p : Number) (i j : ℕ) → i < length states → j < length states →
      In (band_of kinds ends states i) p → In (band_of kinds ends states j) p → i ≡ j
  pub means : (kinds : List ℕ) (ends : List Float) (states : List ℕ) (s : ℕ) (reading aim : Float) (r : Place) →
      PlaceSays kinds ends states s reading aim r → Means kinds ends states s reading aim r
  -- nothing is left open
  pub determined : (kinds : List ℕ) (ends : List Float) (states : List ℕ) (s : ℕ) (reading aim : Float)
      (r q : Place) → PlaceSays kinds ends states s reading aim r → PlaceSays kinds ends states s reading aim q → r ≡ q
  -- the fields fix what the call hands back, the refusal or the state found
  pub places : (r q : Result (Option ℕ) Refusal) → place_of r ≡ place_of q → r ≡ q

-- the exact difference of two finite floats
unfoldable pub difference : Float → Float → Number
difference reading aim = less (value_of reading) (value_of aim)

-- "rounded once": the deviation is a 64-bit float, none is nearer to the exact difference, and none lies between them
pub record Rounded : Type 0 where
  pub a_float : (reading aim : Float) → fits binary64 (deviation_of reading aim) ≡ true
  pub nearest : (reading aim x : Float) → Readable reading aim → fits binary64 x ≡ true → is_finite x ≡ true →
      AtMost (apart (value_of (deviation_of reading aim)) (difference reading aim))
      (apart (value_of x) (difference reading aim))
  pub not_above : (reading aim x : Float) → Readable reading aim → fits binary64 x ≡ true → is_finite x ≡ true →
      AtMost (difference reading aim) (value_of x) → AtMost (value_of (deviation_of reading aim)) (value_of x)
  pub not_below : (reading aim x : Float) → Readable reading aim → fits binary64 x ≡ true → is_finite x ≡ true →
      AtMost (value_of x) (difference reading aim) → AtMost (value_of x) (value_of (deviation_of reading aim))
