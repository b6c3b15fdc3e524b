use Rattle.bundles.specs.Masks.{bits}
use Rattle.bundles.specs.Rows.{all_held}
use Rattle.solver.proofs.Payments.{Paying}
use Rattle.solver.proofs.choosing.Tables.pay_all.Given as goal

abbrev pub invariant-loop-bidder : goal.invariant-loop-bidder
invariant-loop-bidder l = Paying l.self.pieces (bits l.self.pieces l.self.whole) (all_held l.self.rows.now) l.taken l.bidder l.before l.after l.shares
