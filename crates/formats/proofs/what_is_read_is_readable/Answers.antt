use Rattle.formats.proofs.RoundTrips.{read_is_readable}
use Rattle.formats.proofs.what_is_read_is_readable.Goals as goal

pub returns : goal.returns
returns c = read_is_readable
