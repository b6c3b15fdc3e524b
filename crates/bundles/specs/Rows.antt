-- What rows hold. Assumes nothing: these are definitions.
use Rattle.std.specs.Prelude.{ℕ, List, map, take}
use Rattle.auction.specs.Bids.{Bids}
use Rattle.bundles.specs.Offers.{all_meant}
use Rattle.bundles.specs.declared.Bid.{Bid}
use Rattle.bundles.specs.declared.up_to.UpTo.{UpTo}

-- what there is, in its order
abbrev pub held : {T : Type 0} {N : ℕ} → UpTo T N → List T
held u = take u.count u.items

abbrev pub Row : Type 0
Row = UpTo Bid 16

-- the bids of rows, bidder by bidder, as the meaning has them
abbrev pub all_held : List Row → List Bids
all_held rs = map (λ r. all_meant (held r)) rs
