-- What a house that runs does with the lent memory and what it answers, as functions of the memory's words and the call alone, for any words. Assumes nothing: these are definitions.
use Rattle.std.specs.Prelude.{ℕ, ◌+◌, Bool, List, ◌==◌, slice_index}
use Rattle.auction.specs.Bids.{pick}
use Rattle.auction.specs.House.{Call, opens, bids, ticks, my_bids, result, brings, lot_is, garbled, Answer, refused, answer, place, turned, Limits as AllLimits}
use Rattle.auction.specs.Promise.{Keeper, thin}
use Rattle.ledger.specs.Houses.{house_in, is_house, limits_in, limits_of, with_lot, with_now}
use Rattle.ledger.specs.Layout.{count_at, now_at}
use Rattle.ledger.specs.Opening.{new_words}
use Rattle.ledger.specs.Words.{with_row}
use Rattle.ledger.specs.declared.layout.Limits.{Limits}

-- which calls this stage can do, by their numbers: it opens lots, takes bids, lets time go by, and tells of lots and of a bidder's own bids
abbrev pub can_do : ℕ → Bool
can_do = thin

-- the limits that the words hold, with that
abbrev pub limits_now : List ℕ → AllLimits
limits_now m = limits_of can_do (limits_in m)

-- why a call is turned away: 3 where the words are no house, and else as the written house does, of which the words are one; and at which place
abbrev pub turned_in : List ℕ → Call → ℕ
turned_in m c = pick (is_house m) (turned (limits_now m) (house_in m) c) 3

abbrev pub place_in : List ℕ → Call → ℕ
place_in m c = pick (is_house m) (place c (turned_in m c)) 0

-- the words after a call that is not turned away
abbrev pub edit : List ℕ → Call → List ℕ
edit m (opens n t) = with_lot m (slice_index m count_at) n t
edit m (bids k b bs) = with_row (limits_in m) m k b bs
edit m (ticks n) = with_now m (slice_index m now_at + n)
edit m (my_bids k b) = m
edit m (result k b) = m
edit m (brings k) = m
edit m (lot_is k) = m
edit m (garbled n) = m

-- the words after a call, and what is answered
abbrev pub next_in : List ℕ → Call → List ℕ
next_in m c = pick (turned_in m c == 0) (edit m c) m

abbrev pub says_in : List ℕ → Call → Answer
says_in m c = pick (is_house m) (answer (limits_now m) (house_in m) c) (refused 3 0)

-- the keeper: a house of these limits is opened in as many words as they ask for
abbrev pub word_limits : AllLimits → Limits
word_limits l = record { lots = l.lots; bidders = l.bidders; each = l.each }

abbrev pub the_keeper : Keeper
the_keeper = record {
  opened = λ l. record { words = new_words (word_limits l) };
  next = λ m c. record { words = next_in m.words c };
  says = λ m c. says_in m.words c;
}
