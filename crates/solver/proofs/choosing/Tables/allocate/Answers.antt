use Rattle.std.proofs.Common.{refl, arith}
use Rattle.solver.proofs.Bidders.{as_many}
use Rattle.solver.proofs.Walks.{walked_more, walked_all}
use Rattle.solver.proofs.choosing.Tables.allocate.Goals as goal

pub loop-bidder-preserved : goal.loop-bidder-preserved
loop-bidder-preserved c =
    let this = c.args.self.now in
    walked_more _ _ _ _ _ _ c.loop-bidder.invariant (omega (arith, as_many this.rows.now)) _ _ c.choose.ensures (c.left_over-free.ensures.less this.pieces) c.left_over-free.ensures.no_more

pub returns : goal.returns
returns c =
    let this = c.args.self.now in
    rw (← as_many this.rows.now) (walked_all _ _ _ _ _ _ _ c.loop-bidder.invariant (omega (arith, as_many this.rows.now)) (omega (arith, as_many this.rows.now, this.room.few_bidders)) refl)
