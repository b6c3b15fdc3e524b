use Rattle.std.proofs.Common.{◌≡◌, length}
use Rattle.bundles.specs.Rows.{all_held, held}
use Rattle.exports.specs.Filling.{rows_in}
use Rattle.exports.proofs.rows.read_rows.Given as goal

abbrev pub invariant-loop-row : goal.invariant-loop-row
invariant-loop-row l = (all_held (held l.rows) ≡ rows_in l.words l.row-index) × (length (held l.rows) ≡ l.row-index)
