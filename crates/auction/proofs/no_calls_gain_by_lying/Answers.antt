-- Cites the theorem that no calls gain a bidder more than those after which its true bids stand.
-- Assumes nothing.
use Rattle.auction.proofs.OwnBids.{truth_in_calls}
use Rattle.auction.proofs.no_calls_gain_by_lying.Goals as goal

pub returns : goal.returns
returns c = truth_in_calls
