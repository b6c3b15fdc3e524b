-- Cites the theorem that a group is settled on its own pieces, and the others on the rest.
-- Assumes nothing.
use Rattle.auction.proofs.Groups.{settled_on_pieces}
use Rattle.auction.proofs.a_group_is_settled_on_its_pieces.Goals as goal

pub returns : goal.returns
returns c = settled_on_pieces
