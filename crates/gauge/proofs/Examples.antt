-- The marked examples for bands hold of the definitions: each is computed. Assumes nothing.
use mathlib.Core.Path.{refl}
use lib.Count.{count_trailing_zeros}
use lib.Ieee.{span, climb, size, odd, units, round, neg, sum, add, sub, lt, eq, le}
use Rattle.statements.specs.Sets.{numbers, every, first}
use Rattle.gauge.specs.Numbers.{less, apart}
use Rattle.gauge.specs.Bands.{band_of, band_ok, step_ok, lists_fit, kinds_ok, table_ok, deviation_of, reading_ok}
use Rattle.gauge.specs.Bands.{gauge_fault, holds, band_at}
use Rattle.gauge.specs.Placed.{difference}
use Rattle.gauge.specs.MarkedBands.{kinds_at, stairs, MarkedNumbers, MarkedBands}

pub marked_numbers : MarkedNumbers
unfolding less apart difference
marked_numbers =
    record {
      up = (refl, (refl, refl));
      down = (refl, (refl, refl));
      across = (refl, (refl, refl));
      back = (refl, (refl, refl));
      difference_plus = refl;
      difference_minus = refl;
    }

pub marked_bands : MarkedBands
unfolding count_trailing_zeros span climb size odd units round neg sum add sub lt eq le numbers every first band_of band_ok step_ok lists_fit kinds_ok table_ok deviation_of reading_ok gauge_fault holds band_at kinds_at stairs
marked_bands =
    record {
      inside = record { number = refl; found = refl; state = refl };
      lower_end = record { number = refl; found = refl; state = refl };
      minus_zero = record { number = refl; found = refl; state = refl };
      upper_end = record { number = refl; found = refl; state = refl };
      rounded = record { number = refl; found = refl; state = refl };
      rounded_down = record { number = refl; found = refl; state = refl };
      thick = record { number = refl; found = refl; state = refl };
      thin = record { number = refl; found = refl; state = refl };
      empty = record { number = refl; found = refl; state = refl };
      between_zeros = record { number = refl; found = refl; state = refl };
      falling = record { number = refl; found = refl; state = refl };
      infinite = record { number = refl; found = refl; state = refl };
      undefined = record { number = refl; found = refl; state = refl };
      state_is_s = record { number = refl; found = refl; state = refl };
      no_reading = record { number = refl; found = refl; state = refl };
      no_aim = record { number = refl; found = refl; state = refl };
      no_deviation = record { number = refl; found = refl; state = refl };
      table_first = record { number = refl; found = refl; state = refl };
      open_below = record { number = refl; found = refl; state = refl };
      touching = record { number = refl; found = refl; state = refl };
      gap = record { number = refl; found = refl; state = refl };
      open_above = record { number = refl; found = refl; state = refl };
      up_to_least = record { number = refl; found = refl; state = refl };
      overlap = record { number = refl; found = refl; state = refl };
      fall = record { number = refl; found = refl; state = refl };
      all_bands = record { number = refl; found = refl; state = refl };
      no_band = record { number = refl; found = refl; state = refl };
      too_many = record { number = refl; found = refl; state = refl };
      kind_missing = record { number = refl; found = refl; state = refl };
      kind_more = record { number = refl; found = refl; state = refl };
      open_within = record { number = refl; found = refl; state = refl };
      no_kind = record { number = refl; found = refl; state = refl };
    }
