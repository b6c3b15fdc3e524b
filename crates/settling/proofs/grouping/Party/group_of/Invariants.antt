use Rattle.std.proofs.Common.{◌-◌}
use Rattle.settling.specs.Groups.{In}
use Rattle.settling.proofs.grouping.Party.group_of.Given as goal

abbrev pub decreases-loop-more : goal.decreases-loop-more
decreases-loop-more l = l.self.whole.mask - l.pieces.mask

abbrev pub invariant-loop-more : goal.invariant-loop-more
invariant-loop-more l = In l.fn.wanted.mask l.pieces.mask × In l.pieces.mask l.self.whole.mask
