use Rattle.std.proofs.Common.{◌+◌, sym, ap, ◌∙◌, arith, rules}
use Rattle.wire.specs.Bytes.{put, spelled}
use Rattle.wire.specs.Sizes.{length-spelled}
use Rattle.wire.proofs.Writing.{put-put, bid_bytes}
use Rattle.wire.proofs.sixes.a_set_and_a_price_are_a_bid.Goals as goal

pub returns : goal.returns
returns c =
    let out = c.args.out.now in
    let at = c.args.at in
    let bid = c.args.bid in
    put-put out at (at + 2) (spelled 2 bid.on.mask) (spelled 4 bid.price) (omega (arith, length-spelled 2 bid.on.mask)) (omega arith) ∙ ap (put out at) (sym (bid_bytes bid (search rules)))
