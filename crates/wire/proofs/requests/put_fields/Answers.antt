use Rattle.std.proofs.Common.{refl, arith}
use Rattle.wire.specs.Bytes.{spelled}
use Rattle.wire.specs.Sizes.{length-spelled}
use Rattle.wire.proofs.Writing.{length-all_bytes, written-behind}
use Rattle.wire.proofs.requests.put_fields.Goals as goal

pub returns-then-out-size : goal.returns-then-out-size
returns-then-out-size c = (omega (arith, length-all_bytes (spelled 4) 4 (length-spelled 4) c.args.fields.now), refl)

pub returns : goal.returns
returns c = written-behind (spelled 4) 4 (length-spelled 4) c.args.out.now _ _ _ _ c.args.fields.now c.from.ensures refl (omega arith) c.write_all.ensures
