use Rattle.std.proofs.Common.{◌≡◌, ◌++◌}
use Rattle.bundles.specs.Offers.{all_meant}
use Rattle.bundles.specs.Rows.{held}
use Rattle.wire.specs.Offers.{left, offers}
use Rattle.wire.proofs.replies.row_in.Given as goal

abbrev pub invariant-loop-bid : goal.invariant-loop-bid
invariant-loop-bid l =
    (goal.iterator-loop-bid).can_next l.bid-iterator
    × (goal.iterator-loop-bid).is_finite l.bid-iterator
    × (all_meant (held l.row) ++ left l.bid-iterator ≡ offers l.bids)
