use Rattle.std.proofs.Common.{◌≡◌, ℕ, ◌<◌, ◌≤◌, List, Option, Some, None, [], length, map, get_or, Bor, sym, ap, ◌∙◌}
use Rattle.std.proofs.lemmas.List.{get_or-map}
use Rattle.std.specs.List.{HoldsAt}
use Rattle.std.specs.Option.{IfSome, MatchOption}
use Rattle.bundles.specs.Rows.{Row, held}
use Rattle.bundles.specs.declared.Bundle.{Bundle}
use Rattle.settling.specs.Groups.{wants}
use Rattle.settling.proofs.Joining.{wants_past}
use Rattle.settling.proofs.grouping.wants_at.Goals as goal

wanted : (rows : List Row) (i : ℕ) (got : Option (Bor Row)) (w none : Bundle) → IfSome got (λ x. x.now ≡ get_or rows i x.now) →
    MatchOption got (length rows ≤ i) (λ x. (i < length rows) × HoldsAt (λ y. x.now ≡ y) rows i) → MatchOption got (w ≡ none) (λ x. w.mask ≡ wants (held x.now)) → none.mask ≡ 0 →
    w.mask ≡ wants (get_or (map held rows) i [])
wanted rows i None w none item past is zero = ap (λ (b : Bundle). b.mask) is ∙ zero ∙ wants_past rows i past
wanted rows i (Some row) w none item past is zero = is ∙ ap wants (ap held item ∙ sym (get_or-map held rows i row.now [] past.0))

pub returns : goal.returns
returns c = let found = c.get.ensures.lookup in wanted _ _ _ _ _ found.1 found.3 c.map_or.ensures c.default.ensures
