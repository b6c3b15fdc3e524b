use Rattle.std.proofs.Common.{◌≡◌, length}
use Rattle.reading.specs.Lines.{skip}
use Rattle.reading.proofs.reader.Reader.blanks.Given as goal

abbrev pub invariant-loop-self : goal.invariant-loop-self
invariant-loop-self l = skip l.self ≡ skip l.initial.self

abbrev pub decreases-loop-self : goal.decreases-loop-self
decreases-loop-self l = length l.self
