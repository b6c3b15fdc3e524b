use Rattle.wire.proofs.SixBytes.{length-bids_in}
use Rattle.wire.proofs.sixes.so_many_are_read.Goals as goal

pub returns : goal.returns
returns c = λ n. length-bids_in n c.args.bytes.now
