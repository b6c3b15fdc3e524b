-- A row of bids as words, and what a row of words means, for any words. Assumes nothing: these are definitions.
-- A bid is two words, its price and its set as bits, piece 0 the lowest; a price of 0, which no bid has, ends the row.
use Rattle.std.specs.Prelude.{ℕ, ◌+◌, ◌-◌, ◌*◌, ◌%◌, Bool, true, ◌&&◌, List, [], ◌∷◌, ◌++◌, length, take, drop, replicate, ◌==◌, nat_le, nat_lt}
use Rattle.auction.specs.Bids.{Bid, Bids, pick}
use Rattle.bundles.specs.Masks.{bits, mask_of}
use Rattle.ledger.specs.declared.layout.Limits.{Limits}
use Rattle.ledger.specs.Layout.{row_at, row_size}

-- a set is the lower half of its word, whatever the upper half is
abbrev pub bid_of : ℕ → ℕ → Bid
bid_of price on = record { on = bits 16 (on % 65536); price = price }

-- the bids that a row of words holds
unfoldable pub bids_in : List ℕ → Bids
bids_in [] = []
bids_in (p ∷ []) = []
bids_in (p ∷ s ∷ ws) = pick (p == 0) [] (bid_of p s ∷ bids_in ws)

-- the words of bids, and a row of n words that holds them, with nothing behind the last
unfoldable pub bid_words : Bids → List ℕ
bid_words [] = []
bid_words (b ∷ bs) = b.price ∷ mask_of b.on ∷ bid_words bs

unfoldable pub row_words : ℕ → Bids → List ℕ
row_words n bs = bid_words bs ++ replicate (n - 2 * length bs) 0

-- bids that a row of words can hold and give back: a price that is not 0 and fits a word, and a set of sixteen bits
unfoldable pub writable : Bids → Bool
writable [] = true
writable (b ∷ bs) = (nat_le 1 b.price && nat_lt b.price 4294967296) && (length b.on == 16 && writable bs)

-- the row of a bidder on a lot: its words in the memory, and its bids
abbrev pub row_part : Limits → List ℕ → ℕ → ℕ → List ℕ
row_part l m k b = take (row_size l) (drop (row_at l k b) m)

abbrev pub bids_at : Limits → List ℕ → ℕ → ℕ → Bids
bids_at l m k b = bids_in (row_part l m k b)

-- the memory with these bids in the n words from a place on, and all other words as they were; and so for the row of a bidder on a lot
unfoldable pub row_over : List ℕ → ℕ → ℕ → Bids → List ℕ
row_over m at n bs = take at m ++ (row_words n bs ++ drop (at + n) m)

abbrev pub with_row : Limits → List ℕ → ℕ → ℕ → Bids → List ℕ
with_row l m k b bs = row_over m (row_at l k b) (row_size l) bs
