use Rattle.solver.proofs.Joins.{Joining}
use Rattle.solver.proofs.paying.join.Given as goal

abbrev pub invariant-loop-set : goal.invariant-loop-set
invariant-loop-set l = Joining l.first l.second l.whole l.set l.most
