use Rattle.formats.proofs.RoundTrips.{bytes_come_back}
use Rattle.formats.proofs.bytes_come_back.Goals as goal

pub returns : goal.returns
returns c = bytes_come_back
