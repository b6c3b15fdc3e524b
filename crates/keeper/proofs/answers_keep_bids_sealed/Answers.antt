use Rattle.keeper.proofs.SealedAnswers.{sealed_answers}
use Rattle.keeper.proofs.answers_keep_bids_sealed.Goals as goal

pub returns : goal.returns
returns c = sealed_answers
