use Rattle.std.proofs.Common.{List, rules, ap, ◌∙◌}
use Rattle.bundles.specs.Offers.{all_meant, meant}
use Rattle.bundles.specs.Rows.{held}
use Rattle.bundles.specs.declared.Bid.{Bid}
use Rattle.settling.specs.Covers.{covered}
use Rattle.settling.proofs.Keeping.{left_out, left_in, left_short}
use Rattle.settling.proofs.covering.uncovered.Goals as goal

pub add-requires : goal.add-requires
add-requires c = (search rules, left_short c.args.bids.now _ _ (held c.loop-bid.left) c.in-Some.bid.now c.in-Some.ensures.steps c.loop-bid.invariant c.requires)

pub loop-bid-preserved-then-not-is_covered : goal.loop-bid-preserved-then-not-is_covered
loop-bid-preserved-then-not-is_covered c = left_in c.args.bids.now _ _ (held c.loop-bid.left) c.in-Some.bid.now c.in-Some.ensures.steps c.loop-bid.invariant (held c.add.new.self) c.add.ensures

pub loop-bid-preserved : goal.loop-bid-preserved
loop-bid-preserved c =
    left_out c.args.bids.now _ _ (held c.loop-bid.left) c.in-Some.bid.now c.in-Some.ensures.steps c.loop-bid.invariant
    (c.if-not-is_covered.ensures ∙ ap (λ (ks : List Bid). covered (meant c.in-Some.bid.now) (all_meant ks)) c.as_slice.ensures)
