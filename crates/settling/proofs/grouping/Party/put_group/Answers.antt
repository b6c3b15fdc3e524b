use Rattle.std.proofs.Common.{get_or, ◌+◌, ◌∙◌, List, sym, subst, ap, length, Option, arith}
use Rattle.std.proofs.lemmas.List.{get_or_default, length-set}
use Rattle.solver.specs.declared.outcome.Share.{Share}
use Rattle.solver.specs.declared.outcome.Taken.{Taken}
use Rattle.settling.specs.Groups.{want}
use Rattle.settling.proofs.Aparts.{Placing, placing_more, placing_past}
use Rattle.settling.proofs.Joining.{shared_is}
use Rattle.settling.proofs.grouping.Party.put_group.Goals as goal
use Rattle.settling.proofs.grouping.Party.put_group.Goals.{then-shares, else-shares}

pub loop-member-preserved : goal.loop-member-preserved
loop-member-preserved c =
    let rows = c.args.self.now.rows.now in
    let ws = c.args.self.now.wants in
    let m = c.args.group.mask in
    let i = c.loop-member.member in
    let rs = c.loop-member.shares in
    let few = c.args.self.now.few in
    let is = shared_is (want ws i) m c.shares.ensures in
    let own : Share → Option Taken → Share = λ s t. record { taken = t; paid = s.paid } in
    let P : List Share → Type 0 = λ xs. Placing rows ws m c.args.of_group.now c.args.shares.now xs (i + 1) in
    elim c.if-shares.branch [
      | then-shares w ↦ subst P (sym w.shares-is) (
          placing_more rows ws m c.args.of_group.now c.args.shares.now rs i c.loop-member.invariant c.row-item.result (get_or c.args.of_group.now i w.index-of_group-member.result) w.own_bid.result (omega arith)
          (omega (arith, c.if-shares.array_long, ap length w.shares-is, length-set rs i (own (get_or c.args.of_group.now i w.index-of_group-member.result) w.own_bid.result)))
          (sym is ∙ w.if-shares.true) c.row-item.is (get_or_default c.args.of_group.now i _ _ (omega (arith, c.told-of_group))) w.own_bid.ensures)
      | else-shares w ↦ subst P (sym w.shares-is) (placing_past rows ws m c.args.of_group.now c.args.shares.now rs i c.loop-member.invariant (sym is ∙ w.if-shares.false))
    ]
