use Rattle.keeper.proofs.Runs.{enough_memory}
use Rattle.keeper.proofs.memory_is_enough.Goals as goal

pub returns : goal.returns
returns c = enough_memory
