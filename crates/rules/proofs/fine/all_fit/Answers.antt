use Rattle.std.proofs.Common.{◌∙◌, rules}
use borrow.Author.Tests.{tests}
use Rattle.std.proofs.lemmas.Iterator.{YieldsList-from_slice}
use Rattle.std.proofs.lemmas.Iterator.Search.{all_from_yields_List}
use Rattle.auction.specs.Bids.{all, within}
use Rattle.bundles.specs.Offers.{meant}
use Rattle.bundles.specs.declared.Bid.{Bid}
use Rattle.rules.proofs.Steps.{all_in-list_all}
use Rattle.rules.proofs.fine.all_fit.Goals as goal

pub returns : goal.returns
returns c =
    all_from_yields_List (λ (b : Bid). within (meant b).on (all c.args.pieces)) _ _ c.all.result c.all.ensures.ran (YieldsList-from_slice c.args.bids.now (search rules)) (λ x b q k. search (rules, tests))
    ∙ all_in-list_all c.args.bids.now c.args.pieces
