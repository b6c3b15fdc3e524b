-- What is paid, from the tables of those behind a bidder and those before it. Assumes nothing: these are definitions.
use Rattle.std.specs.Prelude.{◌≡◌, ℕ, ◌+◌, ◌-◌, ◌*◌, ◌<◌, ◌≤◌, List, None, Option, length, bit_and, slice_index_or}
use Rattle.auction.specs.Bids.{Some, Bids, best, without}
use Rattle.solver.specs.Tables.{sum_in}
use Rattle.solver.specs.Choosing.{price_of}
use Rattle.solver.specs.Welfare.{table_at}
use Rattle.solver.specs.declared.outcome.Share.{Share}
use Rattle.solver.specs.declared.outcome.Taken.{Taken}

-- what two tables have together when the first is given what a set has of the pieces there are, and the second the rest of them
abbrev pub together : List ℕ → List ℕ → ℕ → ℕ → ℕ
together a b whole s = sum_in a (bit_and whole s) + sum_in b (whole - bit_and whole s)

-- the most of that, over all ways to part them
pub record Joined (a b : List ℕ) (whole most : ℕ) : Type 0 where
  pub none_more : (s : ℕ) → 2 * s + 1 < length a → together a b whole s ≤ most
  pub some : (s : ℕ) × (2 * s + 1 < length a) × (together a b whole s ≡ most)

-- so many words have room for the tables of so many bidders, and for two of those before a bidder
pub record RoomToPay (len n bidders : ℕ) : Type 0 where
  pub few_pieces : n ≤ 16
  pub few_bidders : bidders ≤ 32
  pub words : table_at n (bidders + 3) ≤ len

-- nothing taken and nothing paid
abbrev pub nothing_taken : Share
nothing_taken = record { taken = None; paid = 0 }

-- by these bids, and what was taken at which price, each bidder is charged what the others could have had without it, less what they have; and behind the last one nobody
pub record Charged (bss : List Bids) (free : Some) (ts : List (Option Taken)) (ss : List Share) : Type 0 where
  pub long : length ss ≡ 32
  pub taken : (i : ℕ) → i < length bss → (slice_index_or ss i nothing_taken).taken ≡ slice_index_or ts i None
  pub paid : (i : ℕ) → i < length bss → (slice_index_or ss i nothing_taken).paid ≡ best (without bss i) free - (best bss free - price_of (slice_index_or ts i None))
  pub none : (i : ℕ) → length bss ≤ i → slice_index_or ss i nothing_taken ≡ nothing_taken
