use Rattle.keeper.proofs.Behind.{behind_stays}
use Rattle.keeper.proofs.what_lies_behind_stays.Goals as goal

pub returns : goal.returns
returns c = behind_stays
