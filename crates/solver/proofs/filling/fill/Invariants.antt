use Rattle.std.proofs.Common.{take}
use Rattle.bundles.specs.Offers.{all_meant}
use Rattle.solver.specs.Tables.{Filled}
use Rattle.solver.proofs.filling.fill.Given as goal

abbrev pub invariant-loop-bid : goal.invariant-loop-bid
invariant-loop-bid l = Filled l.from l.to (all_meant (take l.bid-index l.bids))
