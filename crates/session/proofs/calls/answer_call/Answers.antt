use Rattle.std.proofs.Common.{rules, ◌≡◌, Ok, sym, refl, subst, ⊎_elim}
use Rattle.rules.specs.Checks.{Refuses}
use Rattle.wire.specs.Meaning.{asked, read_as}
use Rattle.wire.specs.declared.call.Call.{Call}
use Rattle.session.proofs.calls.answer_call.Goals as goal

pub returns-in-Result : goal.returns-in-Result
returns-in-Result c =
    let Away : Call → Type 0 = λ call. Refuses c.args.memory.now (asked call) c.not_yet.result in
    let read : c.args.asked ≡ Ok c.in_ok-pieces.field-0 = search rules in
    let away : Away c.in_ok-pieces.field-0 = ⊎_elim (λ r. subst Away (sym r.2) (c.not_yet.ensures.result r.0 r.1)) (λ b. subst Away (sym b.1) (c.not_yet.ensures.brings b.0)) c.in-Result.is in
    (subst (λ a. Refuses c.args.memory.now (read_as a) c.not_yet.result) (sym read) away, refl)
