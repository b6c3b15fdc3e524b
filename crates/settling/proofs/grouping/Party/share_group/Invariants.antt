use Rattle.bundles.specs.Rows.{held}
use Rattle.settling.specs.Groups.{bids_as_member}
use Rattle.settling.proofs.Gathered.{Gathered}
use Rattle.settling.proofs.grouping.Party.share_group.Given as goal

abbrev pub invariant-loop-bidder : goal.invariant-loop-bidder
invariant-loop-bidder l = Gathered (bids_as_member l.self.wants l.group.mask l.self.rows.now) l.bidder (held l.members) (held l.kept)
