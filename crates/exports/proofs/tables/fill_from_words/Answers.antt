use Rattle.std.proofs.Common.{List, ap, ◌∙◌, subst}
use Rattle.auction.specs.Bids.{Bids}
use Rattle.bundles.specs.Rows.{all_held}
use Rattle.solver.specs.Welfare.{AllMost}
use Rattle.exports.proofs.tables.fill_from_words.Goals as goal

pub returns-clause-ways : goal.returns-clause-ways
returns-clause-ways c =
    let P : List Bids → Type 0 = λ bss. AllMost c.fill_tables.new.tables c.args.pieces bss in
    subst P (ap all_held c.as_slice.ensures ∙ c.read_rows-rows.ensures.rows) c.fill_tables.ensures.ways
