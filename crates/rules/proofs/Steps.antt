-- Bids looked at one by one. Assumes nothing.
use Rattle.std.proofs.Common.{◌≡◌, ℕ, ◌&&◌, List, [], ◌∷◌, refl, ap}
use Rattle.std.specs.List.{list_all}
use Rattle.auction.specs.Bids.{all, within}
use Rattle.auction.specs.House.{all_in}
use Rattle.bundles.specs.Offers.{all_meant, meant}
use Rattle.bundles.specs.declared.Bid.{Bid}

-- whether all are within a lot of n pieces
pub all_in-list_all : (bs : List Bid) (n : ℕ) → list_all (λ b. within (meant b).on (all n)) bs ≡ all_in (all_meant bs) n
unfolding all_in
all_in-list_all [] n = refl
all_in-list_all (b ∷ bs) n = ap (λ x. within (meant b).on (all n) && x) (all_in-list_all bs n)
