-- Cites the theorem on the best of the first bidders and of one more.
-- Assumes nothing.
use Rattle.auction.proofs.Joined.{one_more}
use Rattle.auction.proofs.faster.one_more_is_asked_first.Goals as goal

pub returns : goal.returns
returns c = one_more
