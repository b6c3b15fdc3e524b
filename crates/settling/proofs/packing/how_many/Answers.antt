use Rattle.std.proofs.Common.{rules}
use Rattle.settling.proofs.Packs.{ones_are_pieces}
use Rattle.settling.proofs.packing.how_many.Goals as goal

pub returns : goal.returns
returns c = ones_are_pieces 16 c.args.places.mask (search rules)
