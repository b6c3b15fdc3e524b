-- What the lent memory is held to, whatever is written. Each is a statement, a type whose proof is owed. Assumes nothing.
use Rattle.std.specs.Prelude.{◌≡◌, ℕ, ◌+◌, ◌*◌, ◌<◌, ◌≤◌, Bool, true, List, length, slice_index}
use Rattle.auction.specs.Bids.{Bids}
use Rattle.auction.specs.House.{bids, opens, ticks, changed, new_house}
use Rattle.ledger.specs.declared.layout.Limits.{Limits}
use Rattle.ledger.specs.Layout.{Good, HasRow, count_at, lot_at, row_at, row_size, tables_at, house_words}
use Rattle.ledger.specs.Words.{row_part, bids_at, with_row, writable}
use Rattle.ledger.specs.Houses.{limits_in, limits_of, house_in, Sound, with_now, with_lot}
use Rattle.ledger.specs.Opening.{opened}

-- WHAT WAS OPENED IS THE NEW HOUSE, with its limits, sound, and all behind it as it was
pub record NewHouse (l : Limits) (m w : List ℕ) : Type 0 where
  pub sound : Sound w
  pub limits : limits_in w ≡ l
  pub house : house_in w ≡ new_house
  pub len : length w ≡ length m
  pub behind : (i : ℕ) → house_words l ≤ i → slice_index w i ≡ slice_index m i

unfoldable pub OpenedIsNew : Type 0
OpenedIsNew = (l : Limits) (m : List ℕ) → Good l → house_words l ≤ length m → ((i : ℕ) → slice_index m i < 4294967296) → NewHouse l m (opened l m)

-- a house never asks for more words than these
unfoldable pub WordsPromised : Type 0
WordsPromised = (l : Limits) → house_words l ≤ 2 * (l.lots * l.bidders * l.each) + 8 * l.lots + 131072 * l.bidders + 524288

-- NO WORD TWICE: the header, the lots, the rows and the tables share no word, and of lots and rows no two do
abbrev pub InLot : ℕ → ℕ → Type 0
InLot k i = (lot_at k ≤ i) × (i < lot_at k + 8)

abbrev pub InRow : Limits → ℕ → ℕ → ℕ → Type 0
InRow l k b i = (row_at l k b ≤ i) × (i < row_at l k b + row_size l)

pub record Apart (l : Limits) (i : ℕ) : Type 0 where
  pub lots : (k j : ℕ) → InLot k i → InLot j i → k ≡ j
  pub rows : (k b j c : ℕ) → b < l.bidders → c < l.bidders → InRow l k b i → InRow l j c i → (k ≡ j) × (b ≡ c)
  pub lot_row : (k j c : ℕ) → k < l.lots → InLot k i → InRow l j c i → ⊥
  pub header_lot : (k : ℕ) → i < 8 → InLot k i → ⊥
  pub header_row : (k b : ℕ) → i < 8 → InRow l k b i → ⊥
  pub lot_tables : (k : ℕ) → k < l.lots → InLot k i → i < tables_at l
  pub row_tables : (k b : ℕ) → k < l.lots → b < l.bidders → InRow l k b i → i < tables_at l

unfoldable pub NoWordTwice : Type 0
NoWordTwice = (l : Limits) (i : ℕ) → Apart l i

-- A ROW IS WRITTEN: its bids are read back; no other word changes, so no other row does; and the last bids are all that is left of it
pub record RowWritten (l : Limits) (m : List ℕ) (k b : ℕ) (bs : Bids) (w : List ℕ) : Type 0 where
  pub len : length w ≡ length m
  pub back : writable bs ≡ true → bids_at l w k b ≡ bs
  pub others : (i : ℕ) → (InRow l k b i → ⊥) → slice_index w i ≡ slice_index m i
  pub rows : (j c : ℕ) → c < l.bidders → ((j ≡ k) × (c ≡ b) → ⊥) → row_part l w j c ≡ row_part l m j c
  pub again : (cs : Bids) → with_row l w k b cs ≡ with_row l m k b cs

unfoldable pub RowsComeBack : Type 0
RowsComeBack =
    (l : Limits) (m : List ℕ) (k b : ℕ) (bs : Bids) → HasRow l k b → house_words l ≤ length m → length bs ≤ l.each → RowWritten l m k b bs (with_row l m k b bs)

-- WHAT IS DONE TO THE WORDS IS DONE TO THE HOUSE: bids in the place of others, one lot more, and time that goes by, for whatever calls it can do
unfoldable pub BidsLand : Type 0
BidsLand =
    (m : List ℕ) (k b : ℕ) (bs : Bids) (can : ℕ → Bool) → Sound m → k < slice_index m count_at → b < (limits_in m).bidders → length bs ≤ (limits_in m).each → writable bs ≡ true →
    (house_in (with_row (limits_in m) m k b bs) ≡ changed (limits_of can (limits_in m)) (house_in m) (bids k b bs)) × Sound (with_row (limits_in m) m k b bs)

unfoldable pub LotsLand : Type 0
LotsLand =
    (m : List ℕ) (n t : ℕ) (can : ℕ → Bool) → Sound m → slice_index m count_at < (limits_in m).lots → n < 4294967296 → t < 4294967296 →
    (house_in (with_lot m (slice_index m count_at) n t) ≡ changed (limits_of can (limits_in m)) (house_in m) (opens n t)) × Sound (with_lot m (slice_index m count_at) n t)

unfoldable pub TimeLands : Type 0
TimeLands =
    (m : List ℕ) (n : ℕ) (can : ℕ → Bool) → Sound m → (house_in m).now + n < 16777216 →
    (house_in (with_now m ((house_in m).now + n)) ≡ changed (limits_of can (limits_in m)) (house_in m) (ticks n)) × Sound (with_now m ((house_in m).now + n))
