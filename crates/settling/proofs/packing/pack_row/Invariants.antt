use Rattle.std.proofs.Common.{◌≡◌, take}
use Rattle.bundles.specs.Rows.{held}
use Rattle.settling.specs.Packs.{packed_bids}
use Rattle.settling.proofs.packing.pack_row.Given as goal

abbrev pub invariant-loop-bid : goal.invariant-loop-bid
invariant-loop-bid l = held l.packed ≡ packed_bids l.places.mask (take l.bid-index l.bid-items)
