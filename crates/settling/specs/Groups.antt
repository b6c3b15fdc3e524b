-- Groups of bidders that share pieces, by what each wants. Assumes nothing: these are definitions.
use Rattle.std.specs.Prelude.{◌≡◌, ℕ, ◌<◌, Bool, true, not, ◌⊎◌, List, [], ◌∷◌, map, length, ◌==◌, bit_and, bit_or, slice_index, slice_index_or}
use Rattle.std.specs.List.{range_with_len}
use Rattle.auction.specs.Bids.{Some, Bids, pick, choice, pays}
use Rattle.bundles.specs.Offers.{all_meant}
use Rattle.bundles.specs.Rows.{Row, held, all_held}
use Rattle.bundles.specs.declared.Bid.{Bid}
use Rattle.bundles.specs.declared.Bundle.{Bundle}
use Rattle.solver.specs.Choosing.{number_of}
use Rattle.solver.specs.Paying.{nothing_taken}
use Rattle.solver.specs.declared.outcome.Share.{Share}
use Rattle.settling.specs.Packs.{packed_bids}

-- what a bidder wants: the pieces of all its bids
unfoldable pub wants : List Bid → ℕ
wants [] = 0
wants (b ∷ bs) = bit_or b.on.mask (wants bs)

-- what a bidder wants, by its number
abbrev pub want : List Bundle → ℕ → ℕ
want ws j = (slice_index_or ws j (record { mask = 0 })).mask

-- what each bidder wants, and nothing behind the last one
pub record AllWants (rows : List Row) (ws : List Bundle) : Type 0 where
  pub long : length ws ≡ 32
  pub each : (i : ℕ) → want ws i ≡ wants (slice_index_or (map held rows) i [])

-- a set of pieces is held by another
abbrev pub In : ℕ → ℕ → Type 0
In s t = bit_and s t ≡ s

-- these pieces and all that bidders want who want one of them
pub record Grown (ws : List Bundle) (all pieces more : ℕ) : Type 0 where
  pub has : In pieces more
  pub within : In more all
  pub joins : (j : ℕ) → (bit_and (want ws j) pieces ≡ 0) ⊎ In (want ws j) more

-- whoever wants one of these pieces wants no others
pub record Closed (ws : List Bundle) (pieces : ℕ) : Type 0 where
  pub each : (j : ℕ) → (bit_and (want ws j) pieces ≡ 0) ⊎ In (want ws j) pieces

-- the pieces of a group, among all that there are
pub record GroupPieces (ws : List Bundle) (all start pieces : ℕ) : Type 0 where
  pub has : In start pieces
  pub within : In pieces all
  pub closed : Closed ws pieces

-- who wants one of the pieces
abbrev pub member : List Bundle → ℕ → ℕ → Bool
member ws pieces j = not (bit_and (want ws j) pieces == 0)

-- a bidder's bids as a member of a group, on its pieces moved together, and nothing for who is not in it
abbrev pub bids_as_member : List Bundle → ℕ → List Row → ℕ → Bids
bids_as_member ws pieces rows i = pick (member ws pieces i) (all_meant (packed_bids pieces (slice_index_or (map held rows) i []))) []

-- the bids of a group, each under its bidder's number
abbrev pub group_bids : List Bundle → ℕ → List Row → List Bids
group_bids ws pieces rows = map (bids_as_member ws pieces rows) (range_with_len 0 (length rows))

-- what the members of a group get and pay, among all bidders
pub record GroupShares (rows : List Row) (ws : List Bundle) (pieces : ℕ) (free : Some) (ss : List Share) : Type 0 where
  pub place : (i : ℕ) → i < length rows → member ws pieces i ≡ true → number_of (slice_index_or ss i nothing_taken).taken ≡ slice_index (choice (all_held rows) free) i
  pub paid : (i : ℕ) → i < length rows → member ws pieces i ≡ true → (slice_index_or ss i nothing_taken).paid ≡ pays (all_held rows) free i
