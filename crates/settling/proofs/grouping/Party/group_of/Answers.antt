use Rattle.settling.proofs.Joining.{in_trans}
use Rattle.settling.proofs.grouping.Party.group_of.Goals as goal

pub loop-more-preserved : goal.loop-more-preserved
loop-more-preserved c = (in_trans _ _ _ c.loop-more.invariant.0 c.grow-more.ensures.has, c.grow-more.ensures.within)
