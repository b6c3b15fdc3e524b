-- Cites the theorem that covered bids of a bidder add nothing.
-- Assumes nothing.
use Rattle.auction.proofs.Kept.{kept_bids}
use Rattle.auction.proofs.faster.covered_bids_add_nothing.Goals as goal

pub returns : goal.returns
returns c = kept_bids
