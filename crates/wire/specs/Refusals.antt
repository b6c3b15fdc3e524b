-- The numbers of the refusals. Assumes nothing: this is a definition.
use Rattle.std.specs.Prelude.{ℕ}
use Rattle.wire.specs.declared.answer.Refusal.{Refusal}
use Rattle.wire.specs.declared.answer.Refusal.TheVariants.{Unreadable, OutOfRange, NoHouse, NoSuchLot, WrongTime, NotInLot, NotLater, AboveLimits}

abbrev pub refusal_number : Refusal → ℕ
refusal_number Unreadable = 1
refusal_number OutOfRange = 2
refusal_number NoHouse = 3
refusal_number NoSuchLot = 4
refusal_number WrongTime = 5
refusal_number NotInLot = 6
refusal_number NotLater = 7
refusal_number AboveLimits = 8
