use Rattle.std.proofs.Common.{sym, ap}
use Rattle.solver.specs.Choosing.{number_of}
use Rattle.solver.proofs.Chosen.{none-taken}
use Rattle.settling.proofs.apart.own_bid.Goals as goal

pub returns-in_err-taken : goal.returns-in_err-taken
returns-in_err-taken c = λ h. none-taken _ _ _ (sym (ap number_of c.in_err-taken.was)) c.from_residual.ensures
