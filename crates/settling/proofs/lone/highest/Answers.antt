use Rattle.std.proofs.Common.{Bool, max, ◌∙◌, rules}
use borrow.Author.Tests.{tests}
use Rattle.std.proofs.lemmas.Iterator.{YieldsList-from_slice, YieldsList-from_map}
use Rattle.std.proofs.lemmas.Iterator.Consumers.{YieldsList-at, YieldsList-from_filter, fold_from_yields_List}
use Rattle.auction.specs.Bids.{within}
use Rattle.bundles.specs.Masks.{bits}
use Rattle.bundles.specs.Offers.{meant}
use Rattle.bundles.specs.declared.Bid.{Bid}
use Rattle.settling.proofs.Alones.{largest_is}
use Rattle.settling.proofs.lone.highest.Goals as goal

pub returns : goal.returns
returns c =
    let bids = c.args.bids.now in
    let free = bits 16 c.args.whole.mask in
    let fits : Bid → Bool = λ b. within (meant b).on free in
    fold_from_yields_List _ max 0 c.fold.result c.fold.ensures.ran
    (YieldsList-from_map _ (λ (b : Bid). b.price) (YieldsList-at c.map.ensures.source (YieldsList-from_filter _ fits (YieldsList-from_slice bids cc) c.filter.ensures.closure (λ x r q k. search (rules, tests)))) c.map.ensures.closure (λ x r q k. search rules))
    (λ a x r q k. search rules)
    ∙ largest_is free bids
