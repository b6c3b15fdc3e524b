use Rattle.formats.proofs.RoundTrips.{one_row_a_call}
use Rattle.formats.proofs.a_call_is_one_row_of_bytes.Goals as goal

pub returns : goal.returns
returns c = one_row_a_call
