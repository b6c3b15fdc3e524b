use Rattle.std.proofs.Common.{◌*◌, refl}
use Rattle.std.proofs.lemmas.List.{length-take-le}
use Rattle.wire.proofs.SixBytes.{bids_part}
use Rattle.wire.proofs.sixes.the_rest_is_not_read.Goals as goal

pub returns : goal.returns
returns c = record { same = λ n h. bids_part n (6 * n) c.args.bytes.now refl h; long = λ n h. length-take-le (6 * n) c.args.bytes.now h }
