-- What the words of the lent memory mean: the house that they hold, for any words, and what it is for words to be a house. Assumes nothing: these are definitions.
use Rattle.std.specs.Prelude.{◌≡◌, ℕ, ◌+◌, ◌<◌, ◌≤◌, Bool, true, ◌&&◌, List, [], map, length, nat_le, nat_lt, slice_index, slice_index_or, slice_set}
use Rattle.std.specs.List.{range_with_len}
use Rattle.auction.specs.Bids.{Bids}
use Rattle.auction.specs.House.{House, Lot, the_lot, Limits as AllLimits}
use Rattle.ledger.specs.declared.layout.Limits.{Limits}
use Rattle.ledger.specs.declared.lots.Lot.{Lot as LotWords}
use Rattle.ledger.specs.declared.standing.Header.{Header}
use Rattle.ledger.specs.Layout.{Good, good, now_at, count_at, lot_at, row_at, house_words}
use Rattle.ledger.specs.Words.{bids_at}

-- the limits, and the header, that the first words are
abbrev pub limits_in : List ℕ → Limits
limits_in m = record { lots = slice_index m 0; bidders = slice_index m 1; each = slice_index m 2 }

abbrev pub header_in : List ℕ → Header
header_in m = record { limits = limits_in m; now = slice_index m now_at; count = slice_index m count_at }

-- the meaning's limits: these and the calls that a house can do
abbrev pub limits_of : (ℕ → Bool) → Limits → AllLimits
limits_of can l = record { calls_can = can; lots = l.lots; bidders = l.bidders; each = l.each }

-- a lot's own words, and the lot with what each bidder has bid on it
abbrev pub lot_words : List ℕ → ℕ → LotWords
lot_words m k = record { pieces = slice_index m (lot_at k); until = slice_index m (lot_at k + 1) }

abbrev pub made_in : Limits → List ℕ → ℕ → List Bids
made_in l m k = map (bids_at l m k) (range_with_len 0 l.bidders)

abbrev pub lot_in : Limits → List ℕ → ℕ → Lot
lot_in l m k = record { pieces = slice_index m (lot_at k); until = slice_index m (lot_at k + 1); made = made_in l m k }

-- the house that words hold, whatever they are
unfoldable pub house_in : List ℕ → House
house_in m = record { now = slice_index m now_at; lots = map (lot_in (limits_in m) m) (range_with_len 0 (slice_index m count_at)) }

-- is this a header of a house, in a memory of so many words; are these words a house, by the header?
abbrev pub fits : Header → ℕ → Bool
fits h n = good h.limits && (nat_le (house_words h.limits) n && (nat_le h.count h.limits.lots && nat_lt h.now 16777216))

unfoldable pub is_house : List ℕ → Bool
is_house m = fits (header_in m) (length m)

-- what a header tells of the memory that it stands in: the words, their bounds, and the house that they hold
pub record Stands (m : List ℕ) (h : Header) : Type 0 where
  pub house : is_house m ≡ true
  pub header : h ≡ header_in m
  pub good : Good h.limits
  pub room : house_words h.limits ≤ length m
  pub few : h.count ≤ h.limits.lots
  pub early : h.now < 16777216
  pub time : (house_in m).now ≡ h.now
  pub many : length (house_in m).lots ≡ h.count
  pub pieces : (k : ℕ) → k < h.count → (the_lot (house_in m) k).pieces ≡ (lot_words m k).pieces
  pub until : (k : ℕ) → k < h.count → (the_lot (house_in m) k).until ≡ (lot_words m k).until
  pub bidders : (k : ℕ) → k < h.count → length (the_lot (house_in m) k).made ≡ h.limits.bidders
  pub bids : (k b : ℕ) → k < h.count → b < h.limits.bidders → slice_index_or (the_lot (house_in m) k).made b [] ≡ bids_at h.limits m k b

-- what words are between calls: a house, with nothing in the lots that are not open yet, in their rows and in the tables
pub record Sound (m : List ℕ) : Type 0 where
  pub house : is_house m ≡ true
  pub words : (i : ℕ) → slice_index m i < 4294967296
  pub lots : (i : ℕ) → lot_at (slice_index m count_at) ≤ i → i < lot_at (slice_index m 0) → slice_index m i ≡ 0
  pub rest : (i : ℕ) → row_at (limits_in m) (slice_index m count_at) 0 ≤ i → i < house_words (limits_in m) → slice_index m i ≡ 0

-- the memory with another time, and with one lot more
abbrev pub with_now : List ℕ → ℕ → List ℕ
with_now m t = slice_set m now_at t

abbrev pub with_lot : List ℕ → ℕ → ℕ → ℕ → List ℕ
with_lot m k n t = slice_set (slice_set (slice_set m (lot_at k) n) (lot_at k + 1) t) count_at (k + 1)
