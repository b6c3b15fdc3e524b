-- What a line means: which call it is, or the place of the first byte that does not fit. Assumes nothing: these are definitions.
use Rattle.std.specs.Prelude.{ℕ, ◌-◌, Bool, List, length, drop, Some, None, codes, Option, nat_eq}
use Rattle.auction.specs.Bids.{Bids, pick}
use Rattle.auction.specs.House.{Call, opens, bids, ticks, my_bids, result, brings, lot_is, garbled}
use Rattle.reading.specs.Lines.{bid_list, byte, end, field, given, skip, spelt, starts}
use Rattle.reading.specs.Reads.{Read, got, stuck, then}
use Rattle.wire.specs.declared.kind.Kind.{Kind}
use Rattle.wire.specs.declared.kind.Kind.TheVariants.{Open, Bid, Ticks, MyBids, Result, Brings, Lot}

-- the words that a call begins with
abbrev pub words : Kind → List ℕ
words Open = codes "open"
words Bid = codes "bid"
words Ticks = codes "ticks"
words MyBids = codes "my bids"
words Result = codes "result"
words Brings = codes "brings"
words Lot = codes "lot"

-- does the line go on with this byte?
abbrev pub at : ℕ → List ℕ → Bool
at w bs = starts (λ b. nat_eq b w) bs

-- the only kind of call that a line can be which begins so: the first byte tells, or the second
abbrev pub likely : List ℕ → Option Kind
likely bs =
    pick (at 111 bs) (Some Open)
    (pick (at 98 bs) (pick (at 114 (drop 1 bs)) (Some Brings) (Some Bid))
    (pick (at 116 bs) (Some Ticks)
    (pick (at 109 bs) (Some MyBids)
    (pick (at 114 bs) (Some Result)
    (pick (at 108 bs) (Some Lot) None)))))

abbrev pub kind : List ℕ → Read Kind
kind bs = given (likely bs) (stuck bs) (λ k. then (spelt (words k) bs) (λ _ left. got k left))

-- the one number of a call, or its two
abbrev pub one : (ℕ → Call) → List ℕ → Read Call
one made bs = then (field bs) (λ n left. got (made n) left)

abbrev pub two : (ℕ → ℕ → Call) → List ℕ → Read Call
two made bs = then (field bs) (λ a left. then (field left) (λ b rest. got (made a b) rest))

-- a colon, and the bids of a call
abbrev pub bids_behind : List ℕ → Read Bids
bids_behind bs = then (byte 58 (skip bs)) (λ _ left. bid_list left)

-- what a kind of call has behind its words
abbrev pub behind : Kind → List ℕ → Read Call
behind Open bs = two opens bs
behind Bid bs = then (field bs) (λ k left. then (field left) (λ b rest. then (bids_behind rest) (λ all end. got (bids k b all) end)))
behind Ticks bs = one ticks bs
behind MyBids bs = two my_bids bs
behind Result bs = two result bs
behind Brings bs = one brings bs
behind Lot bs = one lot_is bs

abbrev pub call : List ℕ → Read Call
call bs = then (kind (skip bs)) (λ k left. then (behind k left) (λ c rest. then (end rest) (λ _ none. got c none)))

-- the call, or how much of the line fits
abbrev pub placed : List ℕ → Read Call → Call
placed bs (got c left) = c
placed bs (stuck left) = garbled (length bs - length left)

abbrev pub line_in : List ℕ → Call
line_in bs = placed bs (call bs)
