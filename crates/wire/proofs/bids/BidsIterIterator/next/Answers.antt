use Rattle.std.proofs.Common.{length, ap, arith, rules}
use Rattle.wire.proofs.SixBytes.{left-none, left-next}
use Rattle.wire.proofs.bids.BidsIterIterator.next.Goals as goal

pub returns-then-self-lt6-clause-steps : goal.returns-then-self-lt6-clause-steps
returns-then-self-lt6-clause-steps c = let none = left-none c.args.self.now.rest.now (omega arith) in (none, none)

pub returns-clause-steps : goal.returns-clause-steps
returns-clause-steps c = left-next c.args.self.now.rest.now _ c.if-self-lt6.false c.read-bid.ensures

pub returns-clause-goes : goal.returns-clause-goes
returns-clause-goes c = let fewer = ap length (returns-clause-steps c) in search (fewer, arith, rules)
