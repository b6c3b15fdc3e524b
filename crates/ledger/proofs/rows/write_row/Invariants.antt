use Rattle.std.proofs.Common.{◌≡◌, ◌*◌, ◌++◌, take, drop}
use Rattle.bundles.specs.Offers.{all_meant}
use Rattle.ledger.specs.Words.{bid_words}
use Rattle.ledger.proofs.rows.write_row.Given as goal

abbrev pub invariant-loop-i : goal.invariant-loop-i
invariant-loop-i l = l.words ≡ bid_words (all_meant (take l.i l.bids)) ++ drop (2 * l.i) l.initial.words
