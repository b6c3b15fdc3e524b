-- Cites the theorem that raising a bid that was taken keeps its place.
-- Assumes nothing.
use Rattle.auction.proofs.Raising.{raising_keeps_place}
use Rattle.auction.proofs.raising_keeps_the_bid_taken.Goals as goal

pub returns : goal.returns
returns c = raising_keeps_place
