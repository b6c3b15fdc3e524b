-- Cites the theorem that nobody pays more than it bid.
-- Assumes nothing.
use Rattle.auction.proofs.Payments.{not_more_than_bid}
use Rattle.auction.proofs.nobody_pays_more_than_it_bid.Goals as goal

pub returns : goal.returns
returns c = not_more_than_bid
