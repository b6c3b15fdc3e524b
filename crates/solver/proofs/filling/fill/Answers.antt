use Rattle.std.proofs.Common.{sym, ap, ◌∙◌, subst, arith}
use Rattle.std.proofs.lemmas.List.{take_more, map-append}
use Rattle.auction.specs.Bids.{Bids}
use Rattle.bundles.specs.Offers.{meant, all_meant}
use Rattle.solver.specs.Tables.{Filled}
use Rattle.solver.proofs.Fills.{filled_none, filled_more}
use Rattle.solver.proofs.Goods.{nothing}
use Rattle.solver.proofs.filling.fill.Goals as goal

pub loop-bid-init : goal.loop-bid-init
loop-bid-init c = rw c.copy_table.ensures (filled_none c.args.from.now)

pub loop-bid-preserved : goal.loop-bid-preserved
loop-bid-preserved c =
    let bids = c.args.bids.now in
    let i = c.loop-bid.bid-index in
    let more = ap all_meant (take_more bids i nothing (omega arith)) ∙ map-append meant _ _ in
    let P : Bids → Type 0 = λ bs. Filled c.args.from.now c.offer.new.to bs in
    subst P (sym more) (filled_more c.args.from.now c.loop-bid.to c.offer.new.to _ _ c.loop-bid.invariant c.offer.ensures)
