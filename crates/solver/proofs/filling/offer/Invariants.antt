use Rattle.std.proofs.Common.{◌-◌}
use Rattle.solver.proofs.Offers.{Reached}
use Rattle.solver.proofs.filling.offer.Given as goal

abbrev pub invariant-loop-set : goal.invariant-loop-set
invariant-loop-set l = Reached l.from l.fn.to l.to l.on l.bid.price l.set

abbrev pub decreases-loop-set : goal.decreases-loop-set
decreases-loop-set l = l.sets - l.set
