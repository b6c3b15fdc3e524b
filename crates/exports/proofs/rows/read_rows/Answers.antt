use Rattle.std.proofs.Common.{◌<◌, ap, length, ◌∙◌, arith}
use Rattle.std.proofs.lemmas.List.{length-take, length-append}
use Rattle.bundles.specs.Rows.{held}
use Rattle.ledger.specs.Words.{bids_in}
use Rattle.exports.proofs.Reading.{rows_more, here}
use Rattle.exports.proofs.rows.read_rows.Goals as goal

pub add-requires : goal.add-requires
add-requires c = (omega arith, omega (arith, length-take c.args.bidders c.as_chunks.result.0.now))

pub loop-row-preserved : goal.loop-row-preserved
loop-row-preserved c =
    let ws = c.args.words.now in
    let i = c.loop-row.row-index in
    let chunks = c.as_chunks.result.0.now in
    let inside : i < c.args.bidders = omega (arith, length-take c.args.bidders chunks) in (
      rows_more ws _ _ c.read_row.result i c.add.ensures c.loop-row.invariant.0
          (c.read_row.ensures ∙ ap bids_in (here ws chunks _ c.args.bidders i _ c.as_chunks.ensures.front inside (omega arith))),
      ap length c.add.ensures ∙ length-append (held c.loop-row.rows) _ ∙ omega arith,
    )
