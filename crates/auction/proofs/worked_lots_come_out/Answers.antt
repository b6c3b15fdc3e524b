-- Cites the theorem that the worked lots come out as their table says.
-- Assumes nothing.
use Rattle.auction.proofs.Worked.{all_come_out}
use Rattle.auction.proofs.worked_lots_come_out.Goals as goal

pub returns : goal.returns
returns c = all_come_out
