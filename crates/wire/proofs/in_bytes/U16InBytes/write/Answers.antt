use Rattle.std.proofs.Common.{◌∙◌, arith}
use Rattle.wire.proofs.Writing.{put_number, spelled_2}
use Rattle.wire.proofs.in_bytes.U16InBytes.write.Goals as goal

pub returns : goal.returns
returns c = put_number c.args.at 2 c.args.self _ c.args.out.now _ _ (c.copy_from_slice.ensures.after ∙ c.to_le_bytes.ensures) (spelled_2 c.args.self) (omega arith)
