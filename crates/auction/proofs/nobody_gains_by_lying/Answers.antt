-- Cites the theorem that nobody gains by bidding anything but the truth.
-- Assumes nothing.
use Rattle.auction.proofs.Truth.{truth_is_best}
use Rattle.auction.proofs.nobody_gains_by_lying.Goals as goal

pub returns : goal.returns
returns c = truth_is_best
