use Rattle.std.proofs.Common.{◌≡◌, ◌++◌, length, drop}
use Rattle.bundles.specs.Offers.{all_meant}
use Rattle.bundles.specs.Rows.{held}
use Rattle.ledger.proofs.RowWords.{bids_of_pairs}
use Rattle.ledger.proofs.rows.read_row.Given as goal

abbrev pub invariant-loop-price : goal.invariant-loop-price
invariant-loop-price l = (all_meant (held l.row) ++ bids_of_pairs (drop l.price-index l.pairs) ≡ bids_of_pairs l.pairs) × (length (held l.row) ≡ l.price-index)
