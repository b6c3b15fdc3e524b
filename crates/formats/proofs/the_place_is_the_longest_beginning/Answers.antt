use Rattle.formats.proofs.RoundTrips.{place_is_longest}
use Rattle.formats.proofs.the_place_is_the_longest_beginning.Goals as goal

pub returns : goal.returns
returns c = place_is_longest
