-- Cites the theorem that groups of which no two want a piece in common are settled by themselves.
-- Assumes nothing.
use Rattle.auction.proofs.ManyGroups.{many_groups}
use Rattle.auction.proofs.many_groups_are_settled_apart.Goals as goal

pub returns : goal.returns
returns c = many_groups
