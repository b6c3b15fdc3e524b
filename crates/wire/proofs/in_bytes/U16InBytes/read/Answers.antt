use Rattle.std.proofs.Common.{sym, ◌∙◌}
use Rattle.wire.proofs.Spelling.{two_at}
use Rattle.wire.proofs.in_bytes.U16InBytes.read.Goals as goal

pub returns : goal.returns
returns c = c.from_le_bytes.ensures ∙ sym (two_at c.args.at c.args.bytes.now)
