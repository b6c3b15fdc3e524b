use Rattle.bundles.specs.Rows.{held}
use Rattle.settling.proofs.Keeping.{LeftOf}
use Rattle.settling.proofs.covering.uncovered.Given as goal

abbrev pub invariant-loop-bid : goal.invariant-loop-bid
invariant-loop-bid l = LeftOf l.bids l.bid-iterator.iter.rest.now (held l.left)
