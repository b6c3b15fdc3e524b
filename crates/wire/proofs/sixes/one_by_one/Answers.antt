use Rattle.wire.proofs.SixBytes.{bid-at}
use Rattle.wire.proofs.sixes.one_by_one.Goals as goal

pub returns : goal.returns
returns c = λ n i h. bid-at n i c.args.bytes.now h
