use Rattle.keeper.proofs.Runs.{refusal_keeps}
use Rattle.keeper.proofs.a_refused_call_keeps_the_memory.Goals as goal

pub returns : goal.returns
returns c = refusal_keeps
