use Rattle.std.proofs.Common.{List, subst}
use Rattle.auction.specs.Faster.{Kept}
use Rattle.bundles.specs.Offers.{all_meant}
use Rattle.bundles.specs.Rows.{held}
use Rattle.bundles.specs.declared.Bid.{Bid}
use Rattle.settling.proofs.Keeping.{kept_trans}
use Rattle.settling.proofs.covering.matter.Goals as goal

pub returns : goal.returns
returns c =
    let P : List Bid → Type 0 = λ bs. Kept (all_meant (held c.uncovered.result)) (all_meant bs) in
    let Q : List Bid → Type 0 = λ bs. Kept (all_meant (held c.uncovered-back.result)) (all_meant bs) in
    kept_trans _ (all_meant (held c.uncovered-back.result)) _ (subst P c.as_slice-2.ensures c.uncovered.ensures) (subst Q c.as_slice.ensures c.uncovered-back.ensures)
