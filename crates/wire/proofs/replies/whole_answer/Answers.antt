use Rattle.wire.proofs.Heard.{row_few}
use Rattle.wire.proofs.replies.whole_answer.Goals as goal

pub row_in-requires : goal.row_in-requires
row_in-requires c = row_few c.args.bytes.now (rw c.in-Bids.is at c.requires)
