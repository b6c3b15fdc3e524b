use Rattle.bundles.proofs.Sets.{touch_bits}
use Rattle.bundles.proofs.bridge.common_bits_are_shared.Goals as goal

pub returns : goal.returns
returns c = λ k n hs hm. touch_bits k n c.args.s c.args.m hs hm
