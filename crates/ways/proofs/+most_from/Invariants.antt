use Rattle.std.proofs.Common.{◌*◌, ◌≤◌, length}
use Rattle.auction.specs.Bids.{best}
use Rattle.bundles.specs.Masks.{bits}
use Rattle.bundles.specs.Rows.{all_held}
use Rattle.ways.proofs.AllWays.{Asked}
use Rattle.ways.proofs.+most_from.Given as goal

abbrev pub decreases-most_from : goal.decreases-most_from
decreases-most_from l = length l.rows.now

abbrev pub invariant-loop-bid : goal.invariant-loop-bid
invariant-loop-bid l = Asked l.bid-items l.bid-index (bits 16 l.free.mask) (best (all_held l.others)) l.most × (l.most ≤ length l.rows * 4294967295)
