use Rattle.std.proofs.Common.{◌≡◌, ℕ, Bool, ◌&&◌, eqb, ap, ◌∙◌, rules}
use borrow.Author.Tests.{tests}
use Rattle.std.specs.List.{position_from}
use Rattle.std.proofs.lemmas.Iterator.{YieldsList-from_slice}
use Rattle.std.proofs.lemmas.Iterator.Adapters.{position_from-zero}
use Rattle.std.proofs.lemmas.Iterator.Search.{position_from_yields_List}
use Rattle.auction.specs.Bids.{within, first_good}
use Rattle.bundles.specs.Masks.{bits}
use Rattle.bundles.specs.Offers.{meant, all_meant}
use Rattle.bundles.specs.declared.Bid.{Bid}
use Rattle.settling.specs.Alone.{counted}
use Rattle.settling.proofs.Alones.{position_is}
use Rattle.settling.proofs.lone.place_of_best.Goals as goal

pub returns-clause-place : goal.returns-clause-place
returns-clause-place c =
    let bids = c.args.bids.now in
    let free = bits 16 c.args.whole.mask in
    let most = c.highest-most.result in
    let good : Bid → Bool = λ b. within (meant b).on free && eqb b.price most in
    let place : c.position.result ≡ position_from good 0 bids =
    position_from_yields_List good _ _ c.position.result c.position.ensures.ran (YieldsList-from_slice bids cc) (λ x r q k. search (rules, tests)) ∙ position_from-zero good bids in
    ap counted place ∙ position_is free most bids 0 ∙ ap (λ (m : ℕ). first_good (all_meant bids) free (λ _. 0) m 0) c.highest-most.ensures
