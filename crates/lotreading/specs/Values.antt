-- What the lot that was read means. Assumes nothing: these are definitions.
use Rattle.std.specs.Prelude.{Ok, Err, Result}
use Rattle.bundles.specs.Rows.{all_held, held}
use Rattle.lotreading.specs.Lots.{Reading, misread, the_lot}
use Rattle.lotreading.specs.declared.Lot.{Lot}
use Rattle.lotreading.specs.declared.Misread.{Misread}

abbrev pub lot_of : Lot → Reading
lot_of l = the_lot l.pieces (all_held (held l.bidders))

abbrev pub read_as : Result Lot Misread → Reading
read_as (Ok l) = lot_of l
read_as (Err m) = misread m.place m.expected
