use Rattle.std.proofs.Common.{◌≡◌, ◌-◌, ◌<◌, length}
use Rattle.reading.specs.Lines.{several}
use Rattle.reading.proofs.Listing.{onto}
use Rattle.reading.proofs.reader.Reader.bid_list.Given as goal

abbrev pub invariant-loop-self : goal.invariant-loop-self
invariant-loop-self l = (length l.bids < 255) × (onto l.bids (several (255 - length l.bids) l.self) ≡ several 255 l.initial.self)

abbrev pub decreases-loop-self : goal.decreases-loop-self
decreases-loop-self l = 255 - length l.bids
