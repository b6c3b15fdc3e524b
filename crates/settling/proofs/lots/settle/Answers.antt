use Rattle.std.proofs.Common.{◌≤◌, length, ◌∙◌, arith}
use Rattle.auction.specs.Bids.{all}
use Rattle.bundles.specs.Rows.{all_held}
use Rattle.solver.proofs.Bidders.{as_many}
use Rattle.settling.proofs.Sums.{comes_to_is, brings_is, brings_no_more}
use Rattle.settling.proofs.lots.settle.Goals as goal

pub payments_of-requires : goal.payments_of-requires
payments_of-requires c =
    let bss = all_held c.args.rows.now in
    let few : length bss ≤ 32 = omega (arith, as_many c.args.rows.now) in
    omega (arith, brings_no_more bss (all c.args.pieces) c.share_lot-shares.result few c.share_lot-shares.ensures, c.prices_of.ensures)

pub returns-clause-settled : goal.returns-clause-settled
returns-clause-settled c =
    let bss = all_held c.args.rows.now in
    let z = c.share_lot-shares.ensures in
    let few : length bss ≤ 32 = omega (arith, as_many c.args.rows.now) in
    record {
      shares = z;
      comes_to = c.prices_of.ensures ∙ comes_to_is bss (all c.args.pieces) c.share_lot-shares.result few z;
      brings = c.payments_of.ensures ∙ brings_is bss (all c.args.pieces) c.share_lot-shares.result few z;
    }
