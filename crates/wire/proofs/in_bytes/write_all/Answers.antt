use Rattle.std.proofs.Common.{◌+◌, ◌*◌, sym, ap, ◌∙◌}
use Rattle.wire.proofs.Writing.{put-none, put-all-more}
use Rattle.wire.proofs.in_bytes.write_all.Goals as goal

pub loop-i-init : goal.loop-i-init
loop-i-init g c = sym (put-none c.args.out.now c.args.at)

pub loop-i-preserved : goal.loop-i-preserved
loop-i-preserved g c =
    let t = g.T.InBytes in
    let at = c.args.at in
    let i = c.loop-i.i in
    c.write.ensures
    ∙ put-all-more t.spelling t.SIZE g.met.T.InBytes.as_many c.args.out.now c.loop-i.out at _ i c.args.values.now c.index-values-i.result c.loop-i-test.true c.requires (ap (λ n. at + n * i) c.SIZE.ensures) c.index-values-i.is c.loop-i.invariant
