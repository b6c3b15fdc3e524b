-- Bids that a house may take, and the row that they are decoded into. Assumes nothing: these are definitions.
use Rattle.std.specs.Prelude.{◌≡◌, ℕ, Bool, ◌&&◌, length, nat_le}
use Rattle.auction.specs.Bids.{Bid, Bids}
use Rattle.auction.specs.House.{any, prices_fine}
use Rattle.bundles.specs.Offers.{all_meant}
use Rattle.bundles.specs.Rows.{Row, held}

-- its price is in range, and its set is not empty
abbrev pub fine : Bid → Bool
fine b = (nat_le 1 b.price && nat_le b.price 1000000000) && any b.on

-- there are no more than so many, and each is such
abbrev pub all_fine : ℕ → Bids → Bool
all_fine n bs = nat_le (length bs) n && prices_fine bs

-- the row holds these bids, in their order
pub record Holds (row : Row) (bs : Bids) : Type 0 where
  pub made : all_meant (held row) ≡ bs
  pub long : length (held row) ≡ length bs
