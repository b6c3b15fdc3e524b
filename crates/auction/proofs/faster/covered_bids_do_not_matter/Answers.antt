-- Cites the theorem that covered bids do not change the best.
-- Assumes nothing.
use Rattle.auction.proofs.Kept.{kept_best}
use Rattle.auction.proofs.faster.covered_bids_do_not_matter.Goals as goal

pub returns : goal.returns
returns c = kept_best
