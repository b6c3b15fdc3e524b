use Rattle.std.proofs.Common.{arith, rules}
use Rattle.solver.proofs.Offers.{reached_next, reached_all}
use Rattle.solver.proofs.Supersets.{next_past}
use Rattle.solver.proofs.filling.offer.Goals as goal

pub loop-set-smaller : goal.loop-set-smaller
loop-set-smaller c = let past = next_past c.loop-set.set c.from-on.result in omega arith

pub loop-set-preserved : goal.loop-set-preserved
loop-set-preserved c = reached_next _ _ _ _ _ _ _ (search rules) c.loop-set.invariant c.raise_sum.ensures

pub returns : goal.returns
returns c = reached_all _ _ _ _ _ _ (search rules) (search rules) c.loop-set.invariant _ c.from-on.ensures (search rules) (search rules)
