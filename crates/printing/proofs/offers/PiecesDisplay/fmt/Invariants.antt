use Rattle.std.proofs.Common.{take}
use Rattle.std.specs.Fmt.{IsPlainFormatter, HasWritten}
use Rattle.bundles.specs.Masks.{bits}
use Rattle.printing.specs.Lines.{set_text}
use Rattle.printing.proofs.offers.PiecesDisplay.fmt.Given as goal

abbrev pub invariant-loop-piece : goal.invariant-loop-piece
invariant-loop-piece g l = IsPlainFormatter l.initial.f → HasWritten g.W.Write.write_str_gives l.initial.f (set_text 0 (take l.piece (bits 16 l.self.0.mask))) l.f
