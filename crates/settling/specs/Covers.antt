-- Bids that others cover. Assumes nothing: these are definitions.
use Rattle.std.specs.Prelude.{Bool}
use Rattle.std.specs.List.{list_any}
use Rattle.auction.specs.Bids.{Bid, Bids}
use Rattle.auction.specs.Faster.{covers}

-- does one of these cover the bid?
abbrev pub covered : Bid → Bids → Bool
covered b cs = list_any (λ c. covers c b) cs
