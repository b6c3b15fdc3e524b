use Rattle.formats.proofs.Heard.{answers_come_back}
use Rattle.formats.proofs.answers_come_back.Goals as goal

pub returns : goal.returns
returns c = answers_come_back
