use Rattle.std.proofs.Common.{true, false, rules}
use borrow.Author.Tests.{tests}
use Rattle.std.proofs.lemmas.Iterator.{YieldsList-from_slice, IsFirst-from_position}
use Rattle.solver.proofs.Goods.{Found, first_there}
use Rattle.solver.proofs.choosing.first_good.Goals as goal

pub returns : goal.returns
returns c = λ n has h holds.
    let F = Found c.args.rest.now c.args.free c.args.most in
    first_there _ n _ _ has _ _ h holds
    (IsFirst-from_position _ _ _ (F true) (F false) c.position.ensures.ran (YieldsList-from_slice c.args.bids.now c.iter.ensures.rest) (λ x q k. search (rules, tests)) (λ x q k. search (rules, tests)))
