-- Cites the theorem that what a bidder is answered is fair.
-- Assumes nothing.
use Rattle.auction.proofs.Answered.{fair_results}
use Rattle.auction.proofs.results_are_fair.Goals as goal

pub returns : goal.returns
returns c = fair_results
