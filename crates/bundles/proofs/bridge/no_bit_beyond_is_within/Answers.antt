use Rattle.std.proofs.Common.{◌∙◌, rules}
use Rattle.std.proofs.lemmas.Bool.{le-leb}
use Rattle.bundles.proofs.Sets.{below_past, within_all, within_more}
use Rattle.bundles.proofs.bridge.no_bit_beyond_is_within.Goals as goal

pub returns : goal.returns
returns c =
    let m = c.args.m in
    let pieces = c.args.pieces in
    record { below = λ k h. within_all k pieces m h; past = λ far k h. le-leb 16 pieces far ∙ within_more k pieces m h (below_past m pieces (search rules) far) }
