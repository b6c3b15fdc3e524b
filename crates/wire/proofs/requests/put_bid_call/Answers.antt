use Rattle.std.proofs.Common.{refl, arith}
use Rattle.wire.specs.Bytes.{AllBytes}
use Rattle.wire.proofs.Calls.{bid_call_written, length-bid-call}
use Rattle.wire.proofs.requests.put_bid_call.Goals as goal

pub returns-then-out-size : goal.returns-then-out-size
returns-then-out-size c =
    let bytes : AllBytes c.args.part.now = λ i. (c.type_inv.part i).fits in
    (omega (arith, length-bid-call c.args.lot c.args.bidder c.args.part.now bytes c.requires.0), refl)

pub returns : goal.returns
returns c =
    let bytes : AllBytes c.args.part.now = λ i. (c.type_inv.part i).fits in
    bid_call_written c.args.lot c.args.bidder c.args.part.now bytes c.requires.0 c.args.out.now _ _ _ _ _ c.from.ensures refl (omega arith) (omega arith)
    c.write_all.ensures c.copy_from_slice.ensures.after
