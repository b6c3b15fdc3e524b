-- Cites the theorem that no allocation comes to more.
-- Assumes nothing.
use Rattle.auction.proofs.Choice.{best_of_all}
use Rattle.auction.proofs.no_allocation_comes_to_more.Goals as goal

pub returns : goal.returns
returns c = best_of_all
