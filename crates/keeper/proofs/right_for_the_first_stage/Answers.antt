use Rattle.keeper.proofs.Runs.{right}
use Rattle.keeper.proofs.right_for_the_first_stage.Goals as goal

pub returns : goal.returns
returns c = right
