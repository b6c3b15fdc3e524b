use Rattle.formats.proofs.RoundTrips.{calls_come_back}
use Rattle.formats.proofs.calls_come_back.Goals as goal

pub returns : goal.returns
returns c = calls_come_back
