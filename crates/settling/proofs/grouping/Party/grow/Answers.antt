use Rattle.std.proofs.Common.{ℕ, ◌+◌, sym, subst}
use Rattle.bundles.specs.declared.Bundle.{Bundle}
use Rattle.settling.specs.Groups.{want}
use Rattle.settling.proofs.Joining.{Growing, growing_past, growing_join, joined_is, apart_is}
use Rattle.settling.proofs.grouping.Party.grow.Goals as goal
use Rattle.settling.proofs.grouping.Party.grow.Goals.{then-shares, else-shares}

pub loop-wants-preserved : goal.loop-wants-preserved
loop-wants-preserved c =
    let ws = c.args.self.now.wants in
    let all = c.args.self.now.whole.mask in
    let pieces = c.args.pieces.mask in
    let i = c.loop-wants.wants-index in
    let more = c.loop-wants.more.mask in
    let G : ℕ → Type 0 = λ m. Growing ws all pieces (i + 1) m in
    let B : Bundle → Type 0 = λ b. G b.mask in
    elim c.if-shares.branch [
      | then-shares w ↦ subst B (sym w.more-is) (subst G (sym (joined_is more (want ws i) w.joined-more.result.mask w.joined-more.ensures)) (growing_join ws all pieces i more c.loop-wants.invariant (c.args.self.now.inside i)))
      | else-shares w ↦ subst B (sym w.more-is) (growing_past ws all pieces i more c.loop-wants.invariant (apart_is (want ws i) pieces c.shares.ensures w.if-shares.false))
    ]
