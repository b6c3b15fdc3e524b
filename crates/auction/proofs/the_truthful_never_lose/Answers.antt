-- Cites the theorem that who is truthful never loses.
-- Assumes nothing.
use Rattle.auction.proofs.Payments.{never_loses}
use Rattle.auction.proofs.the_truthful_never_lose.Goals as goal

pub returns : goal.returns
returns c = never_loses
