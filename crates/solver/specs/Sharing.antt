-- A group of bidders settled: what each gets and what each pays. Assumes nothing: these are definitions.
use Rattle.std.specs.Prelude.{◌≡◌, ℕ, ◌<◌, ◌≤◌, List, [], length, slice_index, slice_index_or}
use Rattle.auction.specs.Bids.{Some, Bids, choice, pays}
use Rattle.auction.specs.Faster.{Kept}
use Rattle.solver.specs.Choosing.{IsTaken}
use Rattle.solver.specs.Paying.{nothing_taken}
use Rattle.solver.specs.declared.outcome.Share.{Share}

-- of each bidder's bids some are kept, and those that are not can't matter
pub record AllKept (kepts bss : List Bids) : Type 0 where
  pub long : length kepts ≡ length bss
  pub each : (i : ℕ) → i < length bss → Kept (slice_index_or kepts i []) (slice_index_or bss i [])

-- what one bidder gets and pays is as the meaning says
pub record RightShare (bss : List Bids) (free : Some) (i : ℕ) (s : Share) : Type 0 where
  pub taken : IsTaken (slice_index_or bss i []) (slice_index (choice bss free) i) s.taken
  pub paid : s.paid ≡ pays bss free i

-- all is as the meaning says, and behind the last bidder there is nothing
pub record Shared (bss : List Bids) (free : Some) (ss : List Share) : Type 0 where
  pub long : length ss ≡ 32
  pub each : (i : ℕ) → i < length bss → RightShare bss free i (slice_index_or ss i nothing_taken)
  pub none : (i : ℕ) → length bss ≤ i → slice_index_or ss i nothing_taken ≡ nothing_taken
