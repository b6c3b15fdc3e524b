-- The solver's tables in lent words: for each set of pieces a sum of 64 bits as two words, low then high. Assumes nothing: these are definitions.
use Rattle.std.specs.Prelude.{◌≡◌, ℕ, ◌+◌, ◌*◌, ◌^◌, ◌<◌, ◌≤◌, ◌≢◌, List, length, slice_index}
use Rattle.auction.specs.Bids.{Some, Bid, Bids, larger, pick, within, less, with_some}
use Rattle.bundles.specs.Masks.{bits}

-- the sum for a set, by the number that its bits make, in a table
abbrev pub sum_in : List ℕ → ℕ → ℕ
sum_in t s = slice_index t (2 * s) + 4294967296 * slice_index t (2 * s + 1)

-- how many words a table for n pieces has
abbrev pub table_words : ℕ → ℕ
table_words n = 2 * 2 ^ n

-- the table holds a function of sets
pub record Holds (t : List ℕ) (n : ℕ) (f : Some → ℕ) : Type 0 where
  pub sums : (s : ℕ) → s < 2 ^ n → sum_in t s ≡ f (bits n s)

-- all its sums are below a bound
pub record Below (t : List ℕ) (n b : ℕ) : Type 0 where
  pub sums : (s : ℕ) → s < 2 ^ n → sum_in t s < b

-- no sum is large: a price, or such a sum, can be added
pub record Small (t : List ℕ) : Type 0 where
  pub sums : (s : ℕ) → 2 * s + 1 < length t → sum_in t s < 9223372036854775808

-- the sum for one set has become this, and no other has changed
pub record Put (t u : List ℕ) (s v : ℕ) : Type 0 where
  pub sum : sum_in u s ≡ v
  pub others : (r : ℕ) → r ≢ s → sum_in u r ≡ sum_in t r

-- what a bid brings with what there is for the rest, where its pieces are free; or what there was, if that is more
abbrev pub with_bid : Bid → (Some → ℕ) → (Some → ℕ) → Some → ℕ
with_bid b rest old free = larger (pick (within b.on free) (b.price + rest (less free b.on)) 0) (old free)

-- a bid was offered to a table, with another for what is left: whatever the two held, the first holds the best with the bid
pub record Offered (from old new : List ℕ) (b : Bid) : Type 0 where
  pub long : length new ≡ length old
  pub holds : (n : ℕ) (rest had : Some → ℕ) → table_words n ≤ length new → Holds from n rest → Holds old n had → Holds new n (with_bid b rest had)
  pub below : (n x : ℕ) → table_words n ≤ length new → Below from n x → Below old n (x + 4294967296) → Below new n (x + 4294967296)

-- a bidder's table was made of the next one's: whatever that holds, this holds the most with one at most of these bids
pub record Filled (from to : List ℕ) (bs : Bids) : Type 0 where
  pub long : length to ≡ length from
  pub holds : (n : ℕ) (rest : Some → ℕ) → table_words n ≤ length to → Holds from n rest → Holds to n (λ free. with_some bs free rest)
  pub below : (n x : ℕ) → table_words n ≤ length to → Below from n x → Below to n (x + 4294967296)
