-- Who gets what, read off filled tables. Assumes nothing: these are definitions.
use Rattle.std.specs.Prelude.{◌≡◌, ℕ, ◌+◌, ◌<◌, ◌≤◌, Bool, ◌&&◌, List, [], length, drop, Some as there, None, Option, MatchOption, ◌==◌, slice_index, slice_index_or}
use Rattle.auction.specs.Bids.{Some, Bid, Bids, best, within, less, first_good, choice, given}
use Rattle.bundles.specs.Masks.{bits}
use Rattle.solver.specs.Tables.{Holds, Below}
use Rattle.solver.specs.Welfare.{table_in}
use Rattle.solver.specs.declared.outcome.Taken.{Taken}

-- the tables hold what is best from each bidder on, and no sum of theirs is large: a price is below 2 ^ 32, and of each of 32 bidders there is one at most
pub record Solved (u : List ℕ) (n : ℕ) (bss : List Bids) : Type 0 where
  pub holds : (j : ℕ) → j ≤ length bss → Holds (table_in u n j) n (best (drop j bss))
  pub below : (j : ℕ) → j ≤ length bss → Below (table_in u n j) n 137438953473

-- does the bid fit, and come with what there is for the rest to the most?
abbrev pub good : Bid → Some → (Some → ℕ) → ℕ → Bool
good b free rest most = within b.on free && b.price + rest (less free b.on) == most

-- the first good bid of a list stands at this place, or none of them is good
abbrev pub IsFirst : Option ℕ → Bids → Some → (Some → ℕ) → ℕ → Type 0
IsFirst r bs free rest most = MatchOption r (0 ≡ first_good bs free rest most 0) (λ i. (i < length bs) × (i + 1 ≡ first_good bs free rest most 0))

-- its number, its price and its pieces, and 0 for none
abbrev pub number_of : Option Taken → ℕ
number_of None = 0
number_of (there t) = t.place

abbrev pub price_of : Option Taken → ℕ
price_of None = 0
price_of (there t) = t.bid.price

abbrev pub pieces_of : Option Taken → ℕ
pieces_of None = 0
pieces_of (there t) = t.bid.on.mask

-- of a bidder's bids the one with this number was taken, or none
pub record IsTaken (bs : Bids) (c : ℕ) (t : Option Taken) : Type 0 where
  pub place : number_of t ≡ c
  pub price : price_of t ≡ (given bs c).price
  pub left : (n s : ℕ) → less (bits n s) (bits 16 (pieces_of t)) ≡ less (bits n s) (given bs c).on

-- each bidder has got what the meaning gives it, and behind the last one there is nothing
pub record Allocated (bss : List Bids) (free : Some) (ts : List (Option Taken)) : Type 0 where
  pub long : length ts ≡ 32
  pub each : (i : ℕ) → i < length bss → IsTaken (slice_index_or bss i []) (slice_index (choice bss free) i) (slice_index_or ts i None)
  pub none : (i : ℕ) → length bss ≤ i → slice_index_or ts i None ≡ None
