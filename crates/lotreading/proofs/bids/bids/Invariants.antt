use Rattle.std.proofs.Common.{◌≡◌, ◌-◌, ◌<◌, length}
use Rattle.bundles.specs.Offers.{meant}
use Rattle.bundles.specs.Rows.{held}
use Rattle.lotreading.specs.Lots.{bid, bids, other_bid}
use Rattle.lotreading.proofs.Several.{rest_of}
use Rattle.lotreading.proofs.bids.bids.Given as goal

abbrev pub invariant-loop-reader : goal.invariant-loop-reader
invariant-loop-reader l =
    (length (held l.row) < 16) × (rest_of meant (bid l.pieces) (λ may _. other_bid may) 16 (held l.row) l.reader ≡ bids l.pieces l.initial.reader)

abbrev pub decreases-loop-reader : goal.decreases-loop-reader
decreases-loop-reader l = 16 - length (held l.row)
