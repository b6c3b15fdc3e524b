-- Cites the theorem that any one bidder may be asked first.
-- Assumes nothing.
use Rattle.auction.proofs.Parting.{any_first}
use Rattle.auction.proofs.any_bidder_may_be_asked_first.Goals as goal

pub returns : goal.returns
returns c = any_first
