-- What a bid, and a row of bids, by value mean. Assumes nothing: these are definitions.
use Rattle.std.specs.Prelude.{List, map}
use Rattle.auction.specs.Bids.{Bids, Bid as Offer}
use Rattle.bundles.specs.Masks.{bits}
use Rattle.bundles.specs.declared.Bid.{Bid}

-- a set comes as sixteen bits, whatever the lot has
abbrev pub meant : Bid → Offer
meant b = record { on = bits 16 b.on.mask; price = b.price }

-- the bids of a list, in their order
abbrev pub all_meant : List Bid → Bids
all_meant bs = map meant bs
