use Rattle.std.proofs.Common.{◌≡◌, take}
use Rattle.settling.specs.Groups.{wants}
use Rattle.settling.proofs.grouping.wants_of.Given as goal

abbrev pub invariant-loop-bid : goal.invariant-loop-bid
invariant-loop-bid l = l.pieces.mask ≡ wants (take l.bid-index l.bid-items)
