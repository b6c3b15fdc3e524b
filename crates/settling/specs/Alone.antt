-- A bidder by itself. Assumes nothing: these are definitions.
use Rattle.std.specs.Prelude.{◌≡◌, ℕ, ◌≢◌, ◌+◌, Option, None, Some as there, List, bit_and}
use Rattle.bundles.specs.declared.Bundle.{Bundle}
use Rattle.settling.specs.Groups.{want}
use Rattle.auction.specs.Bids.{Some, Bids, first_good, with_some}

-- the highest price of its bids that fit
abbrev pub highest : Bids → Some → ℕ
highest bs free = with_some bs free (λ _. 0)

-- the number of the first of these, and 0 if none fits
abbrev pub alone : Bids → Some → ℕ
alone bs free = first_good bs free (λ _. 0) (highest bs free) 0

-- one more than a place, and 0 for none
abbrev pub counted : Option ℕ → ℕ
counted None = 0
counted (there i) = i + 1

-- nobody else wants one of this bidder's pieces
pub record WantsApart (ws : List Bundle) (i : ℕ) : Type 0 where
  pub each : (j : ℕ) → j ≢ i → bit_and (want ws j) (want ws i) ≡ 0
