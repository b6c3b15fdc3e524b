-- Shares written group by group. Assumes nothing: these are definitions.
use Rattle.std.specs.Prelude.{◌≡◌, ℕ, ◌<◌, ◌≤◌, true, false, ◌⊎◌, List, length, slice_index_or}
use Rattle.auction.specs.Bids.{Some}
use Rattle.bundles.specs.Rows.{Row, all_held}
use Rattle.bundles.specs.declared.Bundle.{Bundle}
use Rattle.solver.specs.Paying.{nothing_taken}
use Rattle.solver.specs.Sharing.{RightShare}
use Rattle.solver.specs.declared.outcome.Share.{Share}
use Rattle.settling.specs.Groups.{member}

-- the members of a group have their shares, and all others what they had
pub record WithGroup (rows : List Row) (ws : List Bundle) (pieces : ℕ) (free : Some) (ss rs : List Share) : Type 0 where
  pub members : (j : ℕ) → j < length rows → member ws pieces j ≡ true → RightShare (all_held rows) free j (slice_index_or rs j nothing_taken)
  pub others : (j : ℕ) → (length rows ≤ j) ⊎ (member ws pieces j ≡ false) → slice_index_or rs j nothing_taken ≡ slice_index_or ss j nothing_taken
