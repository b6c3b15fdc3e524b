use Rattle.std.proofs.Common.{◌+◌, ap₂, rules}
use Rattle.solver.proofs.Joins.{joining_more}
use Rattle.solver.proofs.paying.join.Goals as goal

pub loop-set-preserved : goal.loop-set-preserved
loop-set-preserved c = joining_more _ _ _ _ _ c.loop-set.invariant _ _ (ap₂ ◌+◌ c.get_sum.ensures c.get_sum-in-loop-set.ensures) (search rules)
