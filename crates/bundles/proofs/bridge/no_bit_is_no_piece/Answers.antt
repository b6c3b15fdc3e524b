use Rattle.bundles.proofs.Sets.{any-bits}
use Rattle.bundles.proofs.bridge.no_bit_is_no_piece.Goals as goal

pub returns : goal.returns
returns c = λ n h. any-bits n c.args.m h
