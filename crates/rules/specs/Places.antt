-- The place of a call at which it is turned away, by the refusal; but for bytes that are no call. Assumes nothing: this is a definition.
use Rattle.std.specs.Prelude.{ℕ}
use Rattle.wire.specs.declared.answer.Refusal.{Refusal}
use Rattle.wire.specs.declared.answer.Refusal.TheVariants.{Unreadable, OutOfRange, NoHouse, NoSuchLot, WrongTime, NotInLot, NotLater, AboveLimits}

abbrev pub refusal_place : Refusal → ℕ
refusal_place Unreadable = 0
refusal_place OutOfRange = 0
refusal_place NoHouse = 0
refusal_place NoSuchLot = 0
refusal_place WrongTime = 0
refusal_place NotInLot = 2
refusal_place NotLater = 1
refusal_place AboveLimits = 0
