use Rattle.settling.proofs.Aparts.{Placing}
use Rattle.settling.proofs.grouping.Party.put_group.Given as goal

abbrev pub invariant-loop-member : goal.invariant-loop-member
invariant-loop-member l = Placing l.self.rows.now l.self.wants l.group.mask l.of_group l.initial.shares l.shares l.member
