use Rattle.std.proofs.Common.{rules}
use Rattle.bundles.proofs.Sets.{and_not, less-bits}
use Rattle.bundles.proofs.bridge.cleared_bits_are_taken_away.Goals as goal

pub returns : goal.returns
returns c = λ k n h. less-bits n k c.args.m c.args.s _ h (and_not 16 c.args.m c.args.s (search rules) (search rules))
