-- Sets of pieces moved together, as numbers. Assumes nothing: these are definitions.
use Rattle.std.specs.Prelude.{ℕ, List, map}
use Rattle.auction.specs.Faster.{packed, how_many}
use Rattle.bundles.specs.Masks.{bits, mask_of}
use Rattle.bundles.specs.declared.Bid.{Bid}

-- the pieces of a set that stand at the places of the first, moved together
abbrev pub packed_mask : ℕ → ℕ → ℕ
packed_mask places set = mask_of (packed (bits 16 places) (bits 16 set))

-- how many places there are
abbrev pub places_in : ℕ → ℕ
places_in places = how_many (bits 16 places)

-- a bid on these, and a bidder's bids
abbrev pub packed_one : ℕ → Bid → Bid
packed_one places b = record { on = record { mask = packed_mask places b.on.mask }; price = b.price }

abbrev pub packed_bids : ℕ → List Bid → List Bid
packed_bids places bs = map (packed_one places) bs
