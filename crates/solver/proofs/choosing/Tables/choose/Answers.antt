use Rattle.std.proofs.Common.{refl, ap, ◌∙◌, arith}
use Rattle.std.proofs.lemmas.List.{length-map}
use Rattle.bundles.specs.Offers.{meant, all_meant}
use Rattle.bundles.specs.Rows.{all_held}
use Rattle.solver.proofs.Bidders.{as_many, bids_at}
use Rattle.solver.proofs.Chosen.{number_is, taken_there, none-taken}
use Rattle.solver.proofs.choosing.Tables.choose.Goals as goal

pub returns-in_err-i : goal.returns-in_err-i
returns-in_err-i c =
    let rows = c.args.self.now.rows.now in
    let these = ap all_meant c.as_slice-bids.ensures ∙ bids_at rows c.args.bidder _ c.requires.there in
    none-taken _ _ _
    (number_is _ _ (all_held rows) c.args.bidder _ _ 0 _ (omega (arith, c.requires.there, as_many rows)) c.requires.small c.table.ensures.holds c.get_sum-most.ensures these (c.in_err-i.ensures _ _ c.requires.small c.table-rest.ensures.holds))
    c.from_residual.ensures

pub returns : goal.returns
returns c =
    let rows = c.args.self.now.rows.now in
    let bids = c.as_slice-bids.result.now in
    let these = ap all_meant c.as_slice-bids.ensures ∙ bids_at rows c.args.bidder _ c.requires.there in
    let found = c.in_ok-i.ensures _ _ c.requires.small c.table-rest.ensures.holds in
    taken_there bids _ c.in_ok-i.i _ _ (omega (arith, found.0, length-map bids meant)) these
    (number_is _ _ (all_held rows) c.args.bidder _ _ _ _ (omega (arith, c.requires.there, as_many rows)) c.requires.small c.table.ensures.holds c.get_sum-most.ensures these found.1)
    refl refl
