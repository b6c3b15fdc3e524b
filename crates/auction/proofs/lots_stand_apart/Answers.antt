-- Cites the theorem that bids on one lot change no other.
-- Assumes nothing.
use Rattle.auction.proofs.HouseLaws.{lots_apart}
use Rattle.auction.proofs.lots_stand_apart.Goals as goal

pub returns : goal.returns
returns c = lots_apart
