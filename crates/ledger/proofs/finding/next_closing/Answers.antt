use Rattle.std.proofs.Common.{ℕ, List, subst}
use Rattle.ledger.specs.Finding.{FindsFirst}
use Rattle.ledger.specs.Houses.{lot_words}
use Rattle.ledger.proofs.Found.{next_stands}
use Rattle.ledger.proofs.finding.next_closing.Goals as goal

pub returns : goal.returns
returns c =
    let house = c.in_ok-house_of.field-0 in
    let First : List ℕ → Type 0 = λ m. FindsFirst house.header.count (λ (k : ℕ). (lot_words m k).until) c.args.after c.first_after.result in
    next_stands c.args.memory.now house.header c.in_ok-house_of.ensures.0 c.args.after c.first_after.result (subst First c.in_ok-house_of.ensures.1 c.first_after.ensures)
