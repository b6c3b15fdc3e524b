use Rattle.std.proofs.Common.{Bool, List, [], ◌∷◌, ◌||◌, map, sym, refl, ap, ◌∙◌, ◌≡◌, rules}
use borrow.Author.Tests.{tests}
use Rattle.std.specs.List.{list_any}
use Rattle.std.proofs.lemmas.Iterator.{YieldsList-from_slice}
use Rattle.std.proofs.lemmas.Iterator.Search.{any_from_yields_List}
use Rattle.auction.specs.Faster.{covers}
use Rattle.bundles.specs.Offers.{meant}
use Rattle.bundles.specs.declared.Bid.{Bid}
use Rattle.settling.proofs.covering.is_covered.Goals as goal

list_any-map : {A B : Type 0} (p : B → Bool) (f : A → B) (xs : List A) → list_any p (map f xs) ≡ list_any (λ x. p (f x)) xs
list_any-map p f [] = refl
list_any-map p f (x ∷ xs) = ap (λ (t : Bool). p (f x) || t) (list_any-map p f xs)

pub returns : goal.returns
returns c =
    let b = meant c.args.bid in
    any_from_yields_List (λ (o : Bid). covers (meant o) b) _ _ _ c.any.ensures.ran (YieldsList-from_slice c.args.by.now cc) (λ x r q k. search (rules, tests))
    ∙ sym (list_any-map (λ o. covers o b) meant c.args.by.now)
