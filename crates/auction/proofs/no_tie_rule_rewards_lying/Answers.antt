-- Cites the theorem that lying pays under no rule for ties.
-- Assumes nothing.
use Rattle.auction.proofs.Truth.{no_tie_rule_rewards_lying}
use Rattle.auction.proofs.no_tie_rule_rewards_lying.Goals as goal

pub returns : goal.returns
returns c = no_tie_rule_rewards_lying
