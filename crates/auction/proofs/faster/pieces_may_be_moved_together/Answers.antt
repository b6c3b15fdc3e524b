-- Cites the theorem that moving pieces together changes nothing.
-- Assumes nothing.
use Rattle.auction.proofs.Packed.{packed_pieces}
use Rattle.auction.proofs.faster.pieces_may_be_moved_together.Goals as goal

pub returns : goal.returns
returns c = packed_pieces
