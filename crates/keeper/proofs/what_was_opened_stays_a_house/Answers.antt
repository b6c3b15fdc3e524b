use Rattle.keeper.proofs.NeverThree.{never_three}
use Rattle.keeper.proofs.what_was_opened_stays_a_house.Goals as goal

pub returns : goal.returns
returns c = never_three
