-- A lot settled: what each bidder gets and pays, and what the lot comes to and brings. Assumes nothing: these are definitions.
use Rattle.std.specs.Prelude.{◌≡◌, List, length}
use Rattle.auction.specs.Bids.{Some, Bids, best}
use Rattle.auction.specs.House.{paid_by}
use Rattle.solver.specs.Sharing.{Shared}
use Rattle.settling.specs.declared.lots.Settlement.{Settlement}

-- all is as the meaning says
pub record Settled (bss : List Bids) (free : Some) (s : Settlement) : Type 0 where
  pub shares : Shared bss free s.shares
  pub comes_to : s.comes_to ≡ best bss free
  pub brings : s.brings ≡ paid_by (length bss) bss free
