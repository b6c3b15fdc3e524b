-- Cites the theorem that the last bids count.
-- Assumes nothing.
use Rattle.auction.proofs.HouseLaws.{last_counts}
use Rattle.auction.proofs.the_last_bids_count.Goals as goal

pub returns : goal.returns
returns c = last_counts
