use Rattle.std.proofs.Common.{◌≡◌, drop}
use Rattle.reading.specs.Lines.{spelt}
use Rattle.reading.proofs.reader.Reader.spelt.Given as goal

abbrev pub invariant-loop-byte : goal.invariant-loop-byte
invariant-loop-byte l = spelt (drop l.byte-index l.text) l.self ≡ spelt l.text l.initial.self
