-- Cites the theorem on the best of two groups of bidders.
-- Assumes nothing.
use Rattle.auction.proofs.Parting.{two_groups}
use Rattle.auction.proofs.two_groups_part_the_pieces.Goals as goal

pub returns : goal.returns
returns c = two_groups
