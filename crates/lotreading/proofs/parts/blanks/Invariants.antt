use Rattle.std.proofs.Common.{◌≡◌, length}
use Rattle.lotreading.specs.Parts.{behind_blanks, skip}
use Rattle.lotreading.proofs.parts.blanks.Given as goal

abbrev pub invariant-loop-byte : goal.invariant-loop-byte
invariant-loop-byte l = skip l.remark l.reader ≡ behind_blanks l.initial.reader

abbrev pub decreases-loop-byte : goal.decreases-loop-byte
decreases-loop-byte l = length l.reader
