-- Cites the theorem on the bidders before one and those after it.
-- Assumes nothing.
use Rattle.auction.proofs.Joined.{joined}
use Rattle.auction.proofs.faster.before_and_after_are_joined.Goals as goal

pub returns : goal.returns
returns c = joined
