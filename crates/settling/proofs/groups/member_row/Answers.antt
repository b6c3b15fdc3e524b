use Rattle.std.proofs.Common.{sym, ap, ◌∙◌}
use Rattle.bundles.specs.Offers.{all_meant}
use Rattle.bundles.proofs.Picks.{pick_yes, pick_no}
use Rattle.settling.proofs.Joining.{shared_is}
use Rattle.settling.proofs.groups.member_row.Goals as goal

pub returns-then-shares : goal.returns-then-shares
returns-then-shares c = ap all_meant c.pack_row.ensures ∙ sym (pick_yes _ _ (sym (shared_is _ _ c.shares.ensures) ∙ c.if-shares.true))

pub returns-else-shares : goal.returns-else-shares
returns-else-shares c = ap all_meant c.new.ensures ∙ sym (pick_no _ _ (sym (shared_is _ _ c.shares.ensures) ∙ c.if-shares.false))
