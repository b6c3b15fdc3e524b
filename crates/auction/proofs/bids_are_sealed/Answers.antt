-- Cites the theorem that bids are sealed.
-- Assumes nothing.
use Rattle.auction.proofs.Sealed.{sealed}
use Rattle.auction.proofs.bids_are_sealed.Goals as goal

pub returns : goal.returns
returns c = sealed
