-- Cites the theorem that a call that is turned away changes nothing.
-- Assumes nothing.
use Rattle.auction.proofs.HouseLaws.{turned_away}
use Rattle.auction.proofs.a_refused_call_changes_nothing.Goals as goal

pub returns : goal.returns
returns c = turned_away
