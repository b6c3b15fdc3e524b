-- The tables of all bidders: for each bidder and each set the most that the bids from that bidder on come to. Assumes nothing: these are definitions.
use Rattle.std.specs.Prelude.{◌≡◌, ℕ, ◌+◌, ◌-◌, ◌*◌, ◌^◌, ◌<◌, ◌≤◌, true, List, length, take, drop, slice_index}
use Rattle.auction.specs.Bids.{Some, Bids, best}
use Rattle.auction.specs.Promise.{fits_all, sum_of}
use Rattle.bundles.specs.Masks.{bits}
use Rattle.solver.specs.Tables.{sum_in, table_words, Holds, Below}

-- bidder by bidder, and one more behind the last, whose table is all 0
abbrev pub table_at : ℕ → ℕ → ℕ
table_at n i = i * table_words n

-- one of these tables, among all
abbrev pub table_in : List ℕ → ℕ → ℕ → List ℕ
table_in t n i = take (table_words n) (drop (table_at n i) t)

-- so many words have room for the tables of so many bidders
pub record Room (len n bidders : ℕ) : Type 0 where
  pub few_pieces : n ≤ 16
  pub few_bidders : bidders ≤ 32
  pub words : table_at n (bidders + 1) ≤ len

-- the tables from bidder i on are filled, and no other word has changed
pub record FilledFrom (t u : List ℕ) (n : ℕ) (bss : List Bids) (i : ℕ) : Type 0 where
  pub holds : (j : ℕ) → i ≤ j → j ≤ length bss → Holds (table_in u n j) n (best (drop j bss))
  pub below : (j : ℕ) → i ≤ j → j ≤ length bss → Below (table_in u n j) n (1 + (length bss - j) * 4294967296)
  pub before : (k : ℕ) → k < table_at n i → slice_index u k ≡ slice_index t k
  pub behind : (k : ℕ) → table_at n (length bss + 1) ≤ k → slice_index u k ≡ slice_index t k

-- THE MOST OF ALL WAYS: some way to take one bid at most of each bidder, with no piece twice, comes to so much, and none to more
pub record Most (bss : List Bids) (free : Some) (most : ℕ) : Type 0 where
  pub way : (cs : List ℕ) × (fits_all bss free cs ≡ true) × (sum_of bss cs ≡ most)
  pub none_more : (cs : List ℕ) → fits_all bss free cs ≡ true → sum_of bss cs ≤ most

-- every sum of the tables is that of its bidders and its set
abbrev pub AllMost : List ℕ → ℕ → List Bids → Type 0
AllMost u n bss = (i s : ℕ) → i ≤ length bss → s < 2 ^ n → Most (drop i bss) (bits n s) (sum_in (table_in u n i) s)
