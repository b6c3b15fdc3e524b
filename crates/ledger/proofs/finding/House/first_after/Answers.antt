use Rattle.std.proofs.Common.{rules, ◌≡◌, ℕ, ◌<◌, length, MatchOption, false, filter, All, get_or}
use Rattle.std.proofs.iter.runs.Sources.{ranges}
use Rattle.std.specs.Iterator.Runs.{AnyItem}
use Rattle.ledger.specs.Finding.{closing, is_past, before}
use Rattle.ledger.specs.Houses.{lot_words}
use Rattle.ledger.proofs.Found.{first_found}
use Rattle.ledger.proofs.finding.House.first_after.Goals as goal

pub returns : goal.returns
returns c =
    let m = c.args.self.memory.now in
    let ends : ℕ → ℕ = λ k. (lot_words m k).until in
    let p = c.min.ensures.runs in
    let fr = c.filter.ensures.runs p.0 p.0.seen p.1 in
    let mr = c.map.ensures.runs fr.0 fr.0.seen fr.1 in
    let one : p.0.items ≡ filter (is_past c.args.after) fr.0.items = fr.2.4 (is_past c.args.after) (search rules) in
    let many : length fr.0.items ≡ c.args.self.header.count = search (rules, ranges) in
    let each : (k : ℕ) → k < c.args.self.header.count → get_or fr.0.items k (closing ends 0) ≡ closing ends k = λ k h. search (rules, ranges) in
    let any : MatchOption c.min.result (p.0.len ≡ 0) (λ x. AnyItem p.0 (λ y. y ≡ x)) = search rules in
    let least : MatchOption c.min.result (length p.0.items ≡ 0) (λ x. All (λ y. before y x ≡ false) p.0.items) = search rules in
    first_found p.0 fr.0.items c.args.self.header.count ends c.args.after c.min.result one many each any least
