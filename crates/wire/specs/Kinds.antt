-- The numbers of the kinds of calls and of answers. Assumes nothing: these are definitions.
use Rattle.std.specs.Prelude.{ℕ}
use Rattle.wire.specs.declared.kind.Kind.{Kind}
use Rattle.wire.specs.declared.kind.Kind.TheVariants.{Open, Bid, Ticks, MyBids, Result, Brings, Lot}
use Rattle.wire.specs.declared.kind.AnswerKind.{AnswerKind}
use Rattle.wire.specs.declared.kind.AnswerKind.TheVariants.{Refused, Number, Two, Bids}

abbrev pub kind_number : Kind → ℕ
kind_number Open = 0
kind_number Bid = 1
kind_number Ticks = 2
kind_number MyBids = 3
kind_number Result = 4
kind_number Brings = 5
kind_number Lot = 6

abbrev pub answer_kind_number : AnswerKind → ℕ
answer_kind_number Refused = 0
answer_kind_number Number = 1
answer_kind_number Two = 2
answer_kind_number Bids = 3
