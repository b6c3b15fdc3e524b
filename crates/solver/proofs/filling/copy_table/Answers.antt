use Rattle.std.proofs.Common.{ℕ, [], ◌∷◌, ◌++◌, slice_index_or, sym, ap, ◌∙◌, arith}
use Rattle.std.proofs.lemmas.List.{take_all, take_more, take_more_set}
use Rattle.solver.proofs.filling.copy_table.Goals as goal

pub loop-i-preserved : goal.loop-i-preserved
loop-i-preserved c =
    let i = c.loop-i.i in
    let word : ℕ = slice_index_or c.args.from.now i 0 in
    take_more_set c.loop-i.to i word (omega arith)
    ∙ ap (λ xs. xs ++ word ∷ []) c.loop-i.invariant
    ∙ sym (take_more c.args.from.now i 0 c.loop-i-test.true)

pub returns : goal.returns
returns c =
    let i = c.loop-i.i in
    sym (take_all i c.loop-i.to (omega arith)) ∙ c.loop-i.invariant ∙ take_all i c.args.from.now (omega arith)
