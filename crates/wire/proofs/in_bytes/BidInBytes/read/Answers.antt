use Rattle.wire.proofs.SixBytes.{bid-read}
use Rattle.wire.proofs.in_bytes.BidInBytes.read.Goals as goal

pub returns : goal.returns
returns c = bid-read c.args.at _ _ c.args.bytes.now c.read.ensures c.read-2.ensures
