use Rattle.std.proofs.Common.{◌≡◌, ◌-◌, length, take, drop, ap, arith, rules}
use Rattle.std.proofs.lemmas.List.{length-drop, take_all}
use Rattle.daybook.proofs.Cuts.{too_short, one_more}
use Rattle.daybook.proofs.records.RecordsIterator.next.Goals as goal

pub returns-in_default-clause-steps : goal.returns-in_default-clause-steps
returns-in_default-clause-steps c = let none = too_short c.args.self.now.rest.now c.in_default.len_below in (none, none)

pub returns-clause-steps : goal.returns-clause-steps
returns-clause-steps c =
    let bytes = c.args.self.now.rest.now in
    let behind : take (length bytes - 2) (drop 2 bytes) ≡ drop 2 bytes = take_all _ _ (omega (arith, length-drop 2 bytes)) in
    one_more bytes _ _ _ _ _ c.in-len2-up.len_at_least (omega arith) behind c.min.ensures c.split_at.ensures.front c.split_at.ensures.back

pub returns-clause-goes : goal.returns-clause-goes
returns-clause-goes c = let fewer = ap length (returns-clause-steps c) in search (fewer, arith, rules)
