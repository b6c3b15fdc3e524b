-- What the calls and answers of the code mean: for each case its number and values in the format. Assumes nothing: these are definitions.
use Rattle.std.specs.Prelude.{ℕ, Ok, Err, Result}
use Rattle.auction.specs.House.{opens, bids, ticks, my_bids, result, brings, lot_is, garbled, refused, number, two, list, Call as Asked, Answer as Told}
use Rattle.bundles.specs.Offers.{all_meant}
use Rattle.bundles.specs.Rows.{held}
use Rattle.wire.specs.Answers.{Heard, heard, lost}
use Rattle.wire.specs.Offers.{offers}
use Rattle.wire.specs.Refusals.{refusal_number}
use Rattle.wire.specs.declared.answer.Answer.{Answer}
use Rattle.wire.specs.declared.answer.Answer.TheVariants.{Refused, Number, Two, Bids}
use Rattle.wire.specs.declared.call.Call.{Call}
use Rattle.wire.specs.declared.call.Call.TheVariants.{Open, Bid, Ticks, MyBids, Result as ResultOf, Brings, Lot}

abbrev pub asked : Call → Asked
asked (Open n t) = opens n t
asked (Bid k b bs) = bids k b (offers bs)
asked (Ticks n) = ticks n
asked (MyBids k b) = my_bids k b
asked (ResultOf k b) = result k b
asked (Brings k) = brings k
asked (Lot k) = lot_is k

-- what was read: a call, or the place at which the bytes cease to be one
abbrev pub read_as : Result Call ℕ → Asked
read_as (Ok c) = asked c
read_as (Err n) = garbled n

abbrev pub said : Answer → Told
said (Refused f p) = refused (refusal_number f) p
said (Number n) = number n
said (Two a b) = two a b
said (Bids row) = list (all_meant (held row))

-- what was heard: an answer, or the place at which the bytes cease to be one
abbrev pub heard_as : Result Answer ℕ → Heard
heard_as (Ok a) = heard (said a)
heard_as (Err n) = lost n
