use Rattle.keeper.proofs.Twice.{no_trace}
use Rattle.keeper.proofs.bidding_twice_leaves_no_trace.Goals as goal

pub returns : goal.returns
returns c = no_trace
