-- Request (xi): a table of bands, answers 11 and 12, and the state of the band that holds a deviation.
use Rattle.std.specs.Prelude.{◌≡◌, Bool, true, false, ◌&&◌, ◌||◌, not, List, ℕ, zero, suc, ◌+◌, ◌-◌, ◌*◌, eqb, ltb, leb, length, get_or, Float}
use Rattle.std.specs.Prelude.{Option, Some, None, Result, Ok, Err}
use Rattle.std.specs.Float.{nan, binary64}
use Rattle.std.specs.Float.Ieee.{sub, le, lt}
use Rattle.statements.specs.Sets.{pick, every, first}
use Rattle.statements.specs.Plants.{first_of, when}
use Rattle.gauge.specs.Numbers.{is_finite}
use Rattle.gauge.specs.declared.End.{End}
use Rattle.gauge.specs.declared.End.TheVariants.{Open, At}
use Rattle.gauge.specs.declared.Band.{Band}
use Rattle.refusal.specs.declared.Refusal.{Refusal}
use Rattle.refusal.specs.Numbers.{number_of}

-- an end by its kind: 0 open, whatever number stands beside it, and 1 at that number
abbrev pub end_of : ℕ → Float → End
end_of zero x = Open
end_of (suc k) x = At x

-- band i of a table lent as three lists: for each band two kinds and two ends, the lower one first, and a state
unfoldable pub band_of : List ℕ → List Float → List ℕ → ℕ → Band
band_of kinds ends states i =
    record {
      lower = end_of (get_or kinds (2 * i) 0) (get_or ends (2 * i) nan);
      upper = end_of (get_or kinds (2 * i + 1) 0) (get_or ends (2 * i + 1) nan);
      state = get_or states i 0;
    }

-- open, or a finite number
abbrev pub end_ok : End → Bool
end_ok Open = true
end_ok (At x) = is_finite x

-- something lies between two ends
abbrev pub not_empty : End → End → Bool
not_empty Open upper = true
not_empty (At x) Open = true
not_empty (At x) (At y) = lt x y

-- a band may end here and the next one begin there
abbrev pub follows : End → End → Bool
follows Open next = false
follows (At x) Open = false
follows (At x) (At y) = le x y

-- a state below s, ends that are finite where they are numbers, and something between them
unfoldable pub band_ok : ℕ → Band → Bool
band_ok s b = ltb b.state s && (end_ok b.lower && (end_ok b.upper && not_empty b.lower b.upper))

-- band i is right, and begins where the one before it ends, or later
unfoldable pub step_ok : (ℕ → Band) → ℕ → ℕ → Bool
step_ok band s i = band_ok s (band i) && (eqb i 0 || follows (band (i - 1)).upper (band i).lower)

-- 1 to 64 bands, with two kinds and two ends for each
unfoldable pub lists_fit : List ℕ → List Float → List ℕ → Bool
lists_fit kinds ends states =
    let n = length states in
    leb 1 n && (leb n 64 && (eqb (length kinds) (2 * n) && eqb (length ends) (2 * n)))

-- each kind is 0 or 1
unfoldable pub kinds_ok : List ℕ → Bool
kinds_ok kinds = every (length kinds) 0 (λ i. leb (get_or kinds i 0) 1)

-- a table in order
unfoldable pub table_ok : List ℕ → List Float → List ℕ → ℕ → Bool
table_ok kinds ends states s =
    lists_fit kinds ends states &&
    (kinds_ok kinds && every (length states) 0 (step_ok (band_of kinds ends states) s))

-- the reading less the aim, rounded once
unfoldable pub deviation_of : Float → Float → Float
deviation_of reading aim = sub binary64 reading aim

-- reading, aim and deviation are finite
unfoldable pub reading_ok : Float → Float → Bool
reading_ok reading aim = is_finite reading && (is_finite aim && is_finite (deviation_of reading aim))

-- answers 11 and 12, or 0
unfoldable pub gauge_fault : List ℕ → List Float → List ℕ → ℕ → Float → Float → ℕ
gauge_fault kinds ends states s reading aim =
    first_of (when (not (table_ok kinds ends states s)) 11) (when (not (reading_ok reading aim)) 12)

-- the lower end is included, the upper one is not
abbrev pub from_lower : End → Float → Bool
from_lower Open d = true
from_lower (At x) d = le x d

abbrev pub under_upper : End → Float → Bool
under_upper Open d = true
under_upper (At x) d = lt d x

-- a band holds a deviation
unfoldable pub holds : Float → Band → Bool
holds d b = from_lower b.lower d && under_upper b.upper d

-- the first band that does; the number of bands if none does
unfoldable pub band_at : List ℕ → List Float → List ℕ → Float → ℕ
band_at kinds ends states d = first (length states) 0 (λ i. holds d (band_of kinds ends states i))

-- the call is accepted, and some band holds the deviation
abbrev pub is_found : List ℕ → List Float → List ℕ → ℕ → Float → Float → Bool
is_found kinds ends states s reading aim =
    eqb (gauge_fault kinds ends states s reading aim) 0 &&
    ltb (band_at kinds ends states (deviation_of reading aim)) (length states)

-- what the call answers, with every field: a refusal's number or 0, whether a band holds the deviation, and its state
pub record Place : Type 0 where
  pub number : ℕ
  pub found : Bool
  pub state : ℕ

abbrev pub place_of : Result (Option ℕ) Refusal → Place
place_of (Ok (Some state)) = record { number = 0; found = true; state = state }
place_of (Ok None) = record { number = 0; found = false; state = 0 }
place_of (Err why) = record { number = number_of why; found = false; state = 0 }

-- what the call answers: a refusal's number or 0, whether a band holds the deviation, and its state; 0 for no state
pub record PlaceSays (kinds : List ℕ) (ends : List Float) (states : List ℕ) (s : ℕ) (reading aim : Float)
    (r : Place) : Type 0 where
  pub number : r.number ≡ gauge_fault kinds ends states s reading aim
  pub found : r.found ≡ is_found kinds ends states s reading aim
  pub state : r.state ≡ pick r.found (get_or states (band_at kinds ends states (deviation_of reading aim)) 0) 0
