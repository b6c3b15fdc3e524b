use Rattle.std.proofs.Common.{rules}
use Rattle.solver.proofs.Goods.{good_fits, good_misses}
use Rattle.solver.proofs.choosing.is_good.Goals as goal

pub returns-then-free-on : goal.returns-then-free-on
returns-then-free-on c = λ n has h holds. good_fits _ _ _ _ _ _ _ c.from-on.ensures (search rules) h holds _ _ c.if-free-on.true c.from.ensures c.get_sum.ensures

pub returns-else-free-on : goal.returns-else-free-on
returns-else-free-on c = λ n has h holds. good_misses _ _ _ _ _ _ _ c.from-on.ensures (search rules) h holds c.if-free-on.false
