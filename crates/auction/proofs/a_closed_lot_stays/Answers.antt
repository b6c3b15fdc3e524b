-- Cites the theorem that a closed lot stays as it is.
-- Assumes nothing.
use Rattle.auction.proofs.HouseLaws.{closed_stays}
use Rattle.auction.proofs.a_closed_lot_stays.Goals as goal

pub returns : goal.returns
returns c = closed_stays
