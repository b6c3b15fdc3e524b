use Rattle.std.proofs.Common.{◌≡◌, ◌++◌, map, vec_items}
use Rattle.wire.specs.Calls.{call_in}
use Rattle.daybook.specs.Records.{answer_records, calls_in, left, left_in, told}
use Rattle.daybook.proofs.days.answer_all.Given as goal

abbrev pub invariant-loop-request : goal.invariant-loop-request
invariant-loop-request l =
    (goal.iterator-loop-request).can_next l.request-iterator
    × (goal.iterator-loop-request).is_finite l.request-iterator
    × (vec_items l.answers ++ answer_records (told l.memory (map call_in (left_in l.request-iterator))) ≡ vec_items l.initial.answers ++ answer_records (told l.initial.memory (calls_in l.requests)))
    × (left l.memory (map call_in (left_in l.request-iterator)) ≡ left l.initial.memory (calls_in l.requests))
