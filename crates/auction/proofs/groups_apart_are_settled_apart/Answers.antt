-- Cites the theorem that a group whose pieces nobody else wants is settled by itself.
-- Assumes nothing.
use Rattle.auction.proofs.Groups.{settled_apart}
use Rattle.auction.proofs.groups_apart_are_settled_apart.Goals as goal

pub returns : goal.returns
returns c = settled_apart
