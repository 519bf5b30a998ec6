-- Marked examples for request (xi): numbers and their distances, tables of bands, and what the call answers.
use Rattle.std.specs.Prelude.{◌≡◌, Bool, true, false, List, [], ◌∷◌, ℕ, zero, suc, pos, negsuc, Float}
use Rattle.std.specs.Float.{nan, inf, fin}
use Rattle.statements.specs.Sets.{numbers}
use Rattle.gauge.specs.Numbers.{Number, apart, value_of}
use Rattle.gauge.specs.Bands.{PlaceSays}
use Rattle.gauge.specs.Placed.{difference}

-- a whole number, and its negative
abbrev whole : ℕ → Float
whole n = fin false n (pos 0)

abbrev minus : ℕ → Float
minus n = fin true n (pos 0)

-- 0.5; the floats that are written 0.1, 0.2, 0.3 and 4.1; the largest float, and its negative
abbrev half : Float
half = fin false 1 (negsuc 0)

abbrev tenth : Float
tenth = fin false 3602879701896397 (negsuc 54)

abbrev fifth : Float
fifth = fin false 3602879701896397 (negsuc 53)

abbrev three_tenths : Float
three_tenths = fin false 5404319552844595 (negsuc 53)

abbrev four_one : Float
four_one = fin false 2308094809027379 (negsuc 48)

abbrev largest : Float
largest = fin false 9007199254740991 (pos 971)

abbrev least : Float
least = fin true 9007199254740991 (pos 971)

-- -0.75
abbrev three_quarters_below : Float
three_quarters_below = fin true 3 (negsuc 1)

-- a number is plus / over
abbrev Is : Number → ℕ → ℕ → Type 0
Is p plus over = (p.plus ≡ plus) × ((p.minus ≡ 0) × (p.over ≡ over))

-- distances of numbers, either way: of 1 and 3, and of 0.5 and -0.75, which is 10 / 8; 3 less 1
pub record MarkedNumbers : Type 0 where
  pub up : Is (apart (value_of (whole 1)) (value_of (whole 3))) 2 1
  pub down : Is (apart (value_of (whole 3)) (value_of (whole 1))) 2 1
  pub across : Is (apart (value_of half) (value_of three_quarters_below)) 10 8
  pub back : Is (apart (value_of three_quarters_below) (value_of half)) 10 8
  pub difference_plus : (difference (whole 3) (whole 1)).plus ≡ 3
  pub difference_minus : (difference (whole 3) (whole 1)).minus ≡ 1

-- what the call answers for one band with two ends at numbers, state 3 and the given S
abbrev One : Float → Float → ℕ → Float → Float → ℕ → Bool → ℕ → Type 0
One lower upper s reading aim number found state =
    PlaceSays (1 ∷ 1 ∷ []) (lower ∷ upper ∷ []) (3 ∷ []) s reading aim
    (record { number = number; found = found; state = state })

-- and for three bands with the given ends, open at both outer ones, states 5, 6 and 7 of 8
abbrev Three : List Float → Float → ℕ → Bool → ℕ → Type 0
Three ends deviation number found state =
    PlaceSays (0 ∷ 1 ∷ 1 ∷ 1 ∷ 1 ∷ 0 ∷ []) ends (5 ∷ 6 ∷ 7 ∷ []) 8 deviation (whole 0)
    (record { number = number; found = found; state = state })

-- below -1, from -1 to 1, and from 2 on; the numbers beside open ends are undefined and infinite
abbrev three_ends : List Float
three_ends = nan ∷ minus 1 ∷ minus 1 ∷ whole 1 ∷ whole 2 ∷ inf false ∷ []

-- n kinds, all at; and the ends of n bands, each of length 1, from x on
unfoldable pub kinds_at : ℕ → List ℕ
kinds_at zero = []
kinds_at (suc n) = 1 ∷ kinds_at n

unfoldable pub stairs : ℕ → ℕ → List Float
stairs zero x = []
stairs (suc n) x = whole x ∷ whole (suc x) ∷ stairs n (suc x)

-- what the call answers for n such bands with 2n kinds and the states 0, 1 and so on, where the deviation is 63.5
abbrev Stairs : ℕ → ℕ → ℕ → Bool → ℕ → Type 0
Stairs n kinds number found state =
    PlaceSays (kinds_at kinds) (stairs n 0) (numbers n 0) 1024 (whole 64) half
    (record { number = number; found = found; state = state })

pub record MarkedBands : Type 0 where
  -- the band from 0 to 1: inside, at its lower end, with either zero, and at its upper end
  pub inside : One (whole 0) (whole 1) 4 half (whole 0) 0 true 3
  pub lower_end : One (whole 0) (whole 1) 4 (whole 5) (whole 5) 0 true 3
  pub minus_zero : One (whole 0) (whole 1) 4 (minus 0) (whole 0) 0 true 3
  pub upper_end : One (whole 0) (whole 1) 4 (whole 1) (whole 0) 0 false 0
  -- the difference is rounded: 0.3 less 0.1 is below 0.2, and 4.1 less 0.1 below 4
  pub rounded : One fifth three_tenths 4 three_tenths tenth 0 false 0
  pub rounded_down : One (whole 4) (whole 5) 4 four_one tenth 0 false 0
  -- the reading less the aim, and not the other way round
  pub thick : One (whole 1) (whole 2) 4 (whole 3) (whole 2) 0 true 3
  pub thin : One (whole 1) (whole 2) 4 (whole 2) (whole 3) 0 false 0
  -- 11: an empty band, also between the two zeros, ends the wrong way round, infinite and undefined, a state that is S
  pub empty : One (whole 1) (whole 1) 4 half (whole 0) 11 false 0
  pub between_zeros : One (whole 0) (minus 0) 4 half (whole 0) 11 false 0
  pub falling : One (whole 1) (whole 0) 4 half (whole 0) 11 false 0
  pub infinite : One (whole 0) (inf false) 4 half (whole 0) 11 false 0
  pub undefined : One nan (whole 1) 4 half (whole 0) 11 false 0
  pub state_is_s : One (whole 0) (whole 1) 3 half (whole 0) 11 false 0
  -- 12: reading, aim or deviation is not finite; but 11 first
  pub no_reading : One (whole 0) (whole 1) 4 nan (whole 0) 12 false 0
  pub no_aim : One (whole 0) (whole 1) 4 half (inf true) 12 false 0
  pub no_deviation : One (whole 0) (whole 1) 4 largest least 12 false 0
  pub table_first : One (whole 0) (whole 1) 3 nan (whole 0) 11 false 0
  -- three bands: open below, where bands touch the upper one holds the end, a gap, open above
  pub open_below : Three three_ends (minus 7) 0 true 5
  pub touching : Three three_ends (minus 1) 0 true 6
  pub gap : Three three_ends (whole 1) 0 false 0
  pub open_above : Three three_ends largest 0 true 7
  -- from no limit up to the least float: accepted, though no float lies in it
  pub up_to_least : Three (nan ∷ least ∷ minus 1 ∷ whole 1 ∷ whole 2 ∷ nan ∷ []) least 0 false 0
  -- 11: bands that overlap, and bands that fall
  pub overlap : Three (nan ∷ whole 0 ∷ minus 1 ∷ whole 1 ∷ whole 2 ∷ nan ∷ []) (minus 7) 11 false 0
  pub fall : Three (nan ∷ whole 3 ∷ minus 1 ∷ whole 1 ∷ minus 3 ∷ nan ∷ []) (minus 7) 11 false 0
  -- 1 to 64 bands, and kinds that fit
  pub all_bands : Stairs 64 128 0 true 63
  pub no_band : Stairs 0 0 11 false 0
  pub too_many : Stairs 65 130 11 false 0
  pub kind_missing : Stairs 64 127 11 false 0
  pub kind_more : Stairs 64 129 11 false 0
  -- an open end within the table, and a kind that is none, are 11
  pub open_within : PlaceSays (1 ∷ 0 ∷ 1 ∷ 1 ∷ []) (stairs 2 0) (0 ∷ 1 ∷ []) 8 half (whole 0)
      (record { number = 11; found = false; state = 0 })
  pub no_kind : PlaceSays (1 ∷ 2 ∷ []) (stairs 1 0) (0 ∷ []) 8 half (whole 0)
      (record { number = 11; found = false; state = 0 })
