use Rattle.formats.proofs.Heard.{answers_fit}
use Rattle.formats.proofs.answers_fit.Goals as goal

pub returns : goal.returns
returns c = answers_fit
