use Rattle.settling.proofs.Joining.{Growing}
use Rattle.settling.proofs.grouping.Party.grow.Given as goal

abbrev pub invariant-loop-wants : goal.invariant-loop-wants
invariant-loop-wants l = Growing l.self.wants l.self.whole.mask l.pieces.mask l.wants-index l.more.mask
