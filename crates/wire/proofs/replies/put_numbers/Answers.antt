use Rattle.std.proofs.Common.{refl, arith}
use Rattle.wire.specs.Bytes.{spelled}
use Rattle.wire.specs.Sizes.{length-spelled}
use Rattle.wire.proofs.Writing.{written-behind}
use Rattle.wire.proofs.replies.put_numbers.Goals as goal

pub returns : goal.returns
returns c = written-behind (spelled 8) 8 (length-spelled 8) c.args.out.now _ _ _ _ c.args.numbers.now c.from.ensures refl (omega (arith, c.told-out)) c.write_all.ensures
