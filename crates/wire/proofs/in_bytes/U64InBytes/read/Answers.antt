use Rattle.std.proofs.Common.{sym, ◌∙◌}
use Rattle.wire.proofs.Spelling.{eight_at}
use Rattle.wire.proofs.in_bytes.U64InBytes.read.Goals as goal

pub returns : goal.returns
returns c = c.from_le_bytes.ensures ∙ sym (eight_at c.args.at c.args.bytes.now)
