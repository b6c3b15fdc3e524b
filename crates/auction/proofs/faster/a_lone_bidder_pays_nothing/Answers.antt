-- Cites the theorem on one bidder where all others bid nothing.
-- Assumes nothing.
use Rattle.auction.proofs.Lone.{lone_bidder}
use Rattle.auction.proofs.faster.a_lone_bidder_pays_nothing.Goals as goal

pub returns : goal.returns
returns c = lone_bidder
