use Rattle.std.proofs.Common.{List, ◌++◌, vec_items, ap, ◌∙◌}
use Rattle.auction.specs.House.{Answer}
use Rattle.daybook.specs.Records.{answer_records}
use Rattle.daybook.proofs.Openings.{as_written}
use Rattle.daybook.proofs.houses.run_house.Goals as goal

pub returns-clause-written : goal.returns-clause-written
returns-clause-written c = λ good room.
    c.in_ok-answer_all.ensures.bytes
    ∙ ap (λ (told : List Answer). vec_items c.args.answers.now ++ answer_records told)
    (as_written c.args.limits c.args.memory.now c.open.new.memory c.args.requests.now good room (c.opens_anew.ensures good room) (λ i. (c.type_inv.requests i).fits) c.open.ensures.words)
