use Rattle.std.proofs.Common.{ℕ, leb, ◌∙◌, arith, rules}
use borrow.Author.Tests.{tests}
use Rattle.std.proofs.lemmas.Iterator.{YieldsList-from_range}
use Rattle.std.proofs.lemmas.Iterator.Consumers.{count_from_yields_List, YieldsList-from_filter}
use Rattle.ledger.specs.Houses.{lot_words}
use Rattle.ledger.proofs.Found.{closed_counted}
use Rattle.ledger.proofs.finding.House.closed.Goals as goal

pub returns : goal.returns
returns c =
    let m = c.args.self.memory.now in
    count_from_yields_List _ _ c.count.ensures.ran
    (YieldsList-from_filter _ (λ (k : ℕ). leb (lot_words m k).until c.args.self.header.now) (YieldsList-from_range 0 c.args.self.header.count c.args.self.header.count c.filter.ensures.source (omega arith)) c.filter.ensures.closure (λ x b q k. search (rules, tests)))
    ∙ closed_counted m c.args.self.header.now c.args.self.header.count
