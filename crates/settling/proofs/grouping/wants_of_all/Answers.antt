use Rattle.std.proofs.Common.{◌≡◌, ℕ, inl, inr, get_or, map, [], ap, ◌∙◌, arith, rules}
use Rattle.std.proofs.lemmas.List.{get_or_past}
use Rattle.std.proofs.lemmas.Bool.{cases_lt}
use Rattle.bundles.specs.declared.Bundle.{Bundle}
use Rattle.bundles.specs.Rows.{held}
use Rattle.settling.specs.Groups.{wants}
use Rattle.settling.proofs.Joining.{wants_past}
use Rattle.settling.proofs.Made.{made_each}
use Rattle.settling.proofs.grouping.wants_of_all.Goals as goal

pub returns : goal.returns
returns c =
    let rows = c.args.rows.now in
    let ws = c.from_fn.result in
    let P : ℕ → Bundle → Type 0 = λ i w. w.mask ≡ wants (get_or (map held rows) i []) in
    let made = made_each _ _ ws P (λ i y q k. search rules) 32 c.from_fn.ensures.items in
    record {
      long = c.from_fn.ensures.items.long;
      each = λ i. elim (cases_lt i 32) [
        | inl lt ↦ made i _ lt
        | inr far ↦ ap (λ (w : Bundle). w.mask) (get_or_past ws i (record { mask = 0 }) (omega (arith, c.from_fn.ensures.items.long)))
            ∙ wants_past rows i (omega (arith, c.requires))
      ];
    }
