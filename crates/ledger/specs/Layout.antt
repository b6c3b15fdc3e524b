-- Where in the lent memory each thing stands, from the limits alone. Assumes nothing: these are definitions.
-- 8 words of header, 8 words a lot, then the rows of bids by lot and bidder, 2 words a bid, and the rest tables for the solver.
use Rattle.std.specs.Prelude.{ℕ, ◌+◌, ◌*◌, ◌<◌, ◌≤◌, Bool, ◌&&◌, Some, None, Option, nat_le}
use Rattle.auction.specs.Bids.{pick}
use Rattle.ledger.specs.declared.layout.Limits.{Limits}

-- limits that are in range, as a test and as facts
abbrev pub good : Limits → Bool
good l = nat_le l.lots 4096 && (nat_le 1 l.bidders && (nat_le l.bidders 32 && nat_le l.each 16))

abbrev pub Good : Limits → Type 0
Good l = (l.lots ≤ 4096) × (0 < l.bidders) × (l.bidders ≤ 32) × (l.each ≤ 16)

-- the header's words: the limits come first, then the time, and how many lots are open so far; three are spare
abbrev pub now_at : ℕ
now_at = 3

abbrev pub count_at : ℕ
count_at = 4

-- where a lot begins; the rows begin where one lot more would
abbrev pub lot_at : ℕ → ℕ
lot_at k = 8 + 8 * k

-- how many words a row has, and where the one of bidder b on lot k begins
abbrev pub row_size : Limits → ℕ
row_size l = 2 * l.each

abbrev pub row_at : Limits → ℕ → ℕ → ℕ
row_at l k b = lot_at l.lots + 2 * ((k * l.bidders + b) * l.each)

-- there is such a row
pub record HasRow (l : Limits) (k b : ℕ) : Type 0 where
  pub good : Good l
  pub lot : k < l.lots
  pub bidder : b < l.bidders

-- where the tables begin, and how many words the house has
abbrev pub tables_at : Limits → ℕ
tables_at l = lot_at l.lots + 2 * (l.lots * l.bidders * l.each)

abbrev pub house_words : Limits → ℕ
house_words l = tables_at l + 131072 * l.bidders + 524280

abbrev pub needed : Limits → Option ℕ
needed l = pick (good l) (Some (house_words l)) None
