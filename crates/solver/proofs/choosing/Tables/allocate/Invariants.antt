use Rattle.bundles.specs.Masks.{bits}
use Rattle.bundles.specs.Rows.{all_held}
use Rattle.solver.proofs.Walks.{Walked}
use Rattle.solver.proofs.choosing.Tables.allocate.Given as goal

abbrev pub invariant-loop-bidder : goal.invariant-loop-bidder
invariant-loop-bidder l = Walked (all_held l.self.rows.now) (bits l.self.pieces l.self.whole) l.self.pieces l.bidder l.free l.got-items
