use Rattle.std.proofs.Common.{◌≡◌, ◌+◌, ◌-◌, ap, arith}
use Rattle.bundles.specs.Offers.{all_meant}
use Rattle.solver.proofs.Chosen.{taken_there}
use Rattle.settling.proofs.lone.taken_at.Goals as goal

pub returns : goal.returns
returns c = λ h.
    let found = c.in_ok-bid.ensures.lookup in
    let same : c.args.place - 1 + 1 ≡ c.args.place = omega arith in
    let number : c.args.place ≡ c.args.place - 1 + 1 = omega arith in
    taken_there c.as_slice.result.now _ (c.args.place - 1) c.args.place _ found.3.0 (ap all_meant c.as_slice.ensures) same number (found.3.1 _)
