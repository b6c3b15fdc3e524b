use Rattle.std.proofs.Common.{List, ap, ◌∙◌}
use Rattle.bundles.specs.Masks.{bits}
use Rattle.bundles.specs.Offers.{all_meant}
use Rattle.bundles.specs.declared.Bid.{Bid}
use Rattle.solver.proofs.Chosen.{none-taken}
use Rattle.settling.specs.Alone.{alone}
use Rattle.settling.proofs.lone.best_alone.Goals as goal

pub returns-in_err-best : goal.returns-in_err-best
returns-in_err-best c = none-taken _ _ _ (c.in_err-best.ensures.place ∙ ap (λ (bs : List Bid). alone (all_meant bs) (bits 16 c.args.whole.mask)) c.as_slice.ensures) c.from_residual.ensures
