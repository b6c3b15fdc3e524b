use Rattle.std.proofs.Common.{◌≡◌}
use Rattle.settling.proofs.Packs.{packed_from}
use Rattle.settling.proofs.packing.pack.Given as goal

abbrev pub invariant-loop-piece : goal.invariant-loop-piece
invariant-loop-piece l = l.mask ≡ packed_from l.places.mask l.set.mask l.piece
