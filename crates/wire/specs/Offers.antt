-- What the bids of a call mean: six bytes a bid, and 255 at most. Assumes nothing: this is a definition.
use Rattle.std.specs.Prelude.{◌/◌, min, length}
use Rattle.auction.specs.Bids.{Bids as Bids'}
use Rattle.wire.specs.Bytes.{bids_in}
use Rattle.wire.specs.declared.bids.Bids.{Bids}
use Rattle.wire.specs.declared.bids.BidsIter.{BidsIter}

abbrev pub offers : Bids → Bids'
offers b = bids_in (min (length b.bytes.now / 6) 255) b.bytes.now

-- the bids that are yet to come of those that are gone through one by one
abbrev pub left : BidsIter → Bids'
left o = bids_in (length o.rest.now / 6) o.rest.now
