use Rattle.std.proofs.Common.{◌++◌, refl, ◌∙◌, arith, rules}
use Rattle.std.proofs.lemmas.List.{nil_from_length}
use Rattle.bundles.specs.Rows.{all_held}
use Rattle.solver.specs.Welfare.{FilledFrom}
use Rattle.solver.proofs.Bidders.{filled_empty, filled_one_more, first_small, all_most}
use Rattle.solver.proofs.welfare.+fill_tables.Goals as goal

pub fill-requires-clause-small : goal.fill-requires-clause-small
fill-requires-clause-small t c =
    first_small c.args.pieces c.words_of-words.result _ _ _ c.words_of-words.ensures (search rules) c.fill_tables.ensures.filled (omega (arith, c.requires.few_bidders, c.in-Some.ensures.cases.1))

pub returns-in-Some : goal.returns-in-Some
returns-in-Some t c =
    let w = c.words_of-words in
    let long = c.split_at_mut-first.ensures.front_len in
    let filled = filled_one_more c.args.pieces w.result _ _ _ w.ensures (search rules) c.fill_tables.ensures.filled _ _ c.in-Some.row.now _ long (c.fill.auto.to ∙ long) c.as_slice.ensures c.fill.ensures in
    let all : FilledFrom c.args.tables.now (c.fill.new.to ++ c.fill_tables.new.tables) c.args.pieces (all_held c.args.rows.now) 0 = rw (c.split_at_mut-first.ensures.value, c.in-Some.ensures.cases.0) filled in
    record { filled = all; ways = all_most _ _ _ _ all }

pub returns-in-None : goal.returns-in-None
returns-in-None t c =
    let long = c.split_at_mut-first.ensures.front_len in
    let none = nil_from_length c.args.rows.now c.in-None.ensures.cases in
    let filled = filled_empty c.args.pieces _ _ _ _ (long ∙ c.words_of-words.ensures) (c.fill-in-None.ensures.after (λ y e. e)) refl in
    let all : FilledFrom c.args.tables.now (c.fill-in-None.new.self ++ c.split_at_mut-first.result.1.now) c.args.pieces (all_held c.args.rows.now) 0 = rw (c.split_at_mut-first.ensures.value, none) filled in
    record { filled = all; ways = all_most _ _ _ _ all }
