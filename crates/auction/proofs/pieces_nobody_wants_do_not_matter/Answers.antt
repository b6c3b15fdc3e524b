-- Cites the theorem that pieces which nobody wants can be left out.
-- Assumes nothing.
use Rattle.auction.proofs.Unwanted.{unwanted_pieces}
use Rattle.auction.proofs.pieces_nobody_wants_do_not_matter.Goals as goal

pub returns : goal.returns
returns c = unwanted_pieces
