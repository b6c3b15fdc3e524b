use Rattle.std.proofs.Common.{◌≡◌, Bool, eqb, sym, ◌∙◌, rules}
use lib.Bits.{bit_and}
use Rattle.std.specs.List.{list_all}
use Rattle.std.proofs.lemmas.Iterator.{YieldsList-from_slice}
use Rattle.std.proofs.lemmas.Iterator.Search.{all_from_yields_List}
use Rattle.bundles.specs.declared.Bundle.{Bundle}
use Rattle.settling.proofs.Joining.{within_is, all_in, in_all}
use Rattle.settling.proofs.grouping.all_within.Goals as goal

pub returns : goal.returns
returns c =
    let ws = c.args.wants.now in
    let whole = c.args.whole.mask in
    let test : Bundle → Bool = λ w. eqb (bit_and w.mask whole) w.mask in
    let all : c.all.result ≡ list_all test ws = all_from_yields_List test _ _ c.all.result c.all.ensures.ran (YieldsList-from_slice ws cc) (λ x r q k. (search rules, within_is _ _ (search rules))) in
    (λ y. all_in ws whole (sym all ∙ y), λ h. all ∙ in_all ws whole h)
