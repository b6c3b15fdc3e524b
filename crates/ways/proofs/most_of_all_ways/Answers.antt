use Rattle.ways.proofs.AllWays.{best_is_most}
use Rattle.ways.proofs.most_of_all_ways.Goals as goal

pub returns-clause-ways : goal.returns-clause-ways
returns-clause-ways c = best_is_most _ _ _ c.most_from.ensures.sum
