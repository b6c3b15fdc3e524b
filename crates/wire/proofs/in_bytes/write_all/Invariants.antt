use Rattle.std.proofs.Common.{◌≡◌, take}
use Rattle.wire.specs.Bytes.{all_bytes, put}
use Rattle.wire.proofs.in_bytes.write_all.Given as goal

abbrev pub invariant-loop-i : goal.invariant-loop-i
invariant-loop-i g l = l.out ≡ put l.initial.out l.at (all_bytes g.T.InBytes.spelling (take l.i l.values))
