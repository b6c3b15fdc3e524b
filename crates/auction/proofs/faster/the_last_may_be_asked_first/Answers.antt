-- Cites the theorem that a bidder behind the last may be asked first.
-- Assumes nothing.
use Rattle.auction.proofs.Joined.{last_added}
use Rattle.auction.proofs.faster.the_last_may_be_asked_first.Goals as goal

pub returns : goal.returns
returns c = last_added
