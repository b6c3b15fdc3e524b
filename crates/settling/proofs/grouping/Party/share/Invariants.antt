use Rattle.bundles.specs.Masks.{bits}
use Rattle.settling.proofs.Turns.{Turning}
use Rattle.settling.proofs.grouping.Party.share.Given as goal

abbrev pub invariant-loop-bidder : goal.invariant-loop-bidder
invariant-loop-bidder l = Turning l.self.rows.now l.self.wants (bits 16 l.self.whole.mask) l.shares l.bidder l.done.mask
