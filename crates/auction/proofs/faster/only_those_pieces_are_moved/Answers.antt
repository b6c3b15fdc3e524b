-- Cites the theorem on what sets are, moved together.
-- Assumes nothing.
use Rattle.auction.proofs.Packed.{packed_sets}
use Rattle.auction.proofs.faster.only_those_pieces_are_moved.Goals as goal

pub returns : goal.returns
returns c = packed_sets
