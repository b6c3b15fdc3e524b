use Rattle.std.proofs.Common.{sym, ◌∙◌, arith}
use Rattle.ledger.proofs.Opened.{opened_where_needed}
use Rattle.ledger.proofs.opening.open.Goals as goal

pub returns-clause-words : goal.returns-clause-words
returns-clause-words c = opened_where_needed c.args.limits c.args.memory.now c.fill.new.self c.in_ok-words.words (sym c.words_needed.ensures ∙ c.in_ok-words.ensures.ok_part) (omega arith) (c.fill.ensures.after (λ y e. e))
