use Rattle.bundles.proofs.Sets.{or_bits}
use Rattle.bundles.proofs.bridge.joined_bits_are_the_union.Goals as goal

pub returns : goal.returns
returns c = λ n. or_bits n c.args.a c.args.b
