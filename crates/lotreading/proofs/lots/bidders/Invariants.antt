use Rattle.std.proofs.Common.{◌≡◌, ◌-◌, ◌<◌, length}
use Rattle.bundles.specs.Offers.{all_meant}
use Rattle.bundles.specs.Rows.{held}
use Rattle.lotreading.specs.Lots.{bidder, bidders, other_bidder}
use Rattle.lotreading.proofs.Several.{rest_of}
use Rattle.lotreading.proofs.lots.bidders.Given as goal

abbrev pub invariant-loop-row : goal.invariant-loop-row
invariant-loop-row l =
    (length (held l.bidders) < 32) × (rest_of (λ r. all_meant (held r)) (bidder l.pieces) other_bidder 32 (held l.bidders) l.reader ≡ bidders l.pieces l.initial.reader)

abbrev pub decreases-loop-row : goal.decreases-loop-row
decreases-loop-row l = 32 - length (held l.bidders)
