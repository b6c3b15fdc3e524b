use Rattle.std.proofs.Common.{◌∙◌, rules}
use Rattle.std.proofs.lemmas.Bool.{le-ltb}
use Rattle.bundles.proofs.Sets.{has_bit, has-none}
use Rattle.bundles.proofs.bridge.a_bit_is_a_piece.Goals as goal

pub returns : goal.returns
returns c =
    let p = c.args.p in
    let m = c.args.m in
    record { below = λ n h. has_bit n p m h; past = λ far n h. le-ltb p 16 far ∙ has-none n p m (search rules) far h }
