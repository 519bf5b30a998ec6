-- The marked examples hold of the definitions: each is computed. Assumes nothing.
use mathlib.Core.Path.{refl}
use Rattle.statements.specs.Plants.{word, words, arrows_from, plant_of}
use Rattle.statements.specs.Books.{two, bytes_of}
use Rattle.statements.specs.Index.{index_long}
use Rattle.statements.specs.Marked.{plant_p}
use Rattle.statements.specs.MarkedIndex.{index_p}
use Rattle.index.specs.Checked.{key_of, climbs, opens_well, ascends}
use Rattle.index.specs.Gathered.{climbed, taken}
use Rattle.index.specs.Marked.{index_of, values, Marked}

pub marked : Marked
unfolding word words arrows_from plant_of two bytes_of index_long plant_p index_p key_of climbs opens_well ascends climbed taken index_of values
marked =
    record {
      fine = refl;
      falling = refl;
      twice = refl;
      no_arrow = refl;
      by_start = refl;
      longer = refl;
      shorter = refl;
      gathered = refl;
      climb = refl;
    }
