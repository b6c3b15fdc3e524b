use Rattle.bundles.proofs.Sets.{within-bits}
use Rattle.bundles.proofs.bridge.common_bits_are_all.Goals as goal

pub returns : goal.returns
returns c = λ k n hs hm. within-bits k n c.args.s c.args.m hs hm
