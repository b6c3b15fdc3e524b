-- Cites the theorem that raising a bid that was taken keeps its pieces and its payment.
-- Assumes nothing.
use Rattle.auction.proofs.Raising.{raising_keeps}
use Rattle.auction.proofs.raising_keeps_pieces_and_payment.Goals as goal

pub returns : goal.returns
returns c = raising_keeps
