-- The house: lots, sealed bids, time, and results. Assumes nothing: these are definitions.
use Rattle.std.specs.Prelude.{ℕ, zero, suc, ◌+◌, Bool, true, false, ◌&&◌, ◌||◌, List, [], ◌∷◌, ◌++◌, length, ◌==◌, nat_le, nat_lt, slice_index, slice_index_or, slice_set}
use Rattle.auction.specs.Bids.{pick, Some, within, all, Bids, best, choice, pays}

pub data Call : Type 0 where
  opens : ℕ → ℕ → Call  -- a lot of so many pieces, until a tick
  bids : ℕ → ℕ → Bids → Call  -- lot, bidder, all its bids there, in place of those before
  ticks : ℕ → Call
  my_bids : ℕ → ℕ → Call  -- lot, bidder
  result : ℕ → ℕ → Call  -- of a closed lot, for a bidder: which bid was taken, and what it pays
  brings : ℕ → Call  -- what a closed lot brings: the sum bid by the winners, and the sum paid
  lot_is : ℕ → Call  -- pieces, until when
  garbled : ℕ → Call  -- bytes that are no call; where they cease to be one

pub data Answer : Type 0 where
  refused : ℕ → ℕ → Answer
  number : ℕ → Answer
  two : ℕ → ℕ → Answer
  list : Bids → Answer

pub record Limits : Type 0 where
  pub calls_can : ℕ → Bool
  pub lots : ℕ
  pub bidders : ℕ
  pub each : ℕ

pub record Lot : Type 0 where
  pub pieces : ℕ
  pub until : ℕ
  pub made : List Bids

pub record House : Type 0 where
  pub now : ℕ
  pub lots : List Lot

abbrev pub call_number : Call → ℕ
call_number (opens n t) = 0
call_number (bids k b bs) = 1
call_number (ticks n) = 2
call_number (my_bids k b) = 3
call_number (result k b) = 4
call_number (brings k) = 5
call_number (lot_is k) = 6
call_number (garbled n) = 255

unfoldable pub any : Some → Bool
any [] = false
any (x ∷ xs) = x || any xs

unfoldable pub prices_fine : Bids → Bool
prices_fine [] = true
prices_fine (b ∷ bs) = (nat_le 1 b.price && nat_le b.price 1000000000) && (any b.on && prices_fine bs)

abbrev pub good_fields : Limits → Call → Bool
good_fields l (opens n t) = (nat_le 1 n && nat_le n 16) && nat_lt t 16777216
good_fields l (bids k b bs) = nat_lt b l.bidders && (nat_le (length bs) l.each && prices_fine bs)
good_fields l (ticks n) = nat_le 1 n && nat_le n 65536
good_fields l (my_bids k b) = nat_lt b l.bidders
good_fields l (result k b) = nat_lt b l.bidders
good_fields l (brings k) = true
good_fields l (lot_is k) = true
good_fields l (garbled n) = true

abbrev pub good_call : Limits → Call → Bool
good_call l c = (call_number c == 255 || l.calls_can (call_number c)) && good_fields l c

abbrev pub the_lot : House → ℕ → Lot
the_lot h k = slice_index_or h.lots k (record { pieces = 0; until = 0; made = [] })

unfoldable pub all_in : Bids → ℕ → Bool
all_in [] n = true
all_in (b ∷ bs) n = within b.on (all n) && all_in bs n

-- why a call is turned away: 1 no call, 4 no such lot, 5 a lot that is closed, or that is not, 6 pieces that the lot doesn't have, 7 a time that is past, 8 above the limits
abbrev pub turned_by : Limits → House → Call → ℕ
turned_by l h (opens n t) = pick (nat_lt h.now t) (pick (nat_lt (length h.lots) l.lots) 0 8) 7
turned_by l h (bids k b bs) = pick (nat_lt k (length h.lots)) (pick (nat_lt h.now (the_lot h k).until) (pick (all_in bs (the_lot h k).pieces) 0 6) 5) 4
turned_by l h (ticks n) = pick (nat_lt (h.now + n) 16777216) 0 8
turned_by l h (my_bids k b) = pick (nat_lt k (length h.lots)) 0 4
turned_by l h (result k b) = pick (nat_lt k (length h.lots)) (pick (nat_le (the_lot h k).until h.now) 0 5) 4
turned_by l h (brings k) = pick (nat_lt k (length h.lots)) (pick (nat_le (the_lot h k).until h.now) 0 5) 4
turned_by l h (lot_is k) = pick (nat_lt k (length h.lots)) 0 4
turned_by l h (garbled n) = 1

abbrev pub turned : Limits → House → Call → ℕ
turned l h c = pick (good_call l c) (turned_by l h c) 2

abbrev pub place : Call → ℕ → ℕ
place (opens n t) m = pick (m == 7) 1 0
place (bids k b bs) m = pick (m == 6) 2 0
place (ticks n) m = 0
place (my_bids k b) m = 0
place (result k b) m = 0
place (brings k) m = 0
place (lot_is k) m = 0
place (garbled n) m = n

unfoldable pub nobody : ℕ → List Bids
nobody zero = []
nobody (suc n) = [] ∷ nobody n

abbrev pub changed : Limits → House → Call → House
changed l h (opens n t) = record { now = h.now; lots = h.lots ++ (record { pieces = n; until = t; made = nobody l.bidders } ∷ []) }
changed l h (bids k b bs) =
    let o : Lot = the_lot h k in
    record { now = h.now; lots = slice_set h.lots k (record { pieces = o.pieces; until = o.until; made = slice_set o.made b bs }) }
changed l h (ticks n) = record { now = h.now + n; lots = h.lots }
changed l h (my_bids k b) = h
changed l h (result k b) = h
changed l h (brings k) = h
changed l h (lot_is k) = h
changed l h (garbled n) = h

abbrev pub after : Limits → House → Call → House
after l h c = pick (turned l h c == 0) (changed l h c) h

unfoldable pub paid_by : ℕ → List Bids → Some → ℕ
paid_by zero bss free = 0
paid_by (suc n) bss free = pays bss free n + paid_by n bss free

abbrev pub told : House → Call → Answer
told h (opens n t) = number (length h.lots)
told h (bids k b bs) = number (length bs)
told h (ticks n) = number (h.now + n)
told h (my_bids k b) = list (slice_index_or (the_lot h k).made b [])
told h (result k b) = two (slice_index (choice (the_lot h k).made (all (the_lot h k).pieces)) b) (pays (the_lot h k).made (all (the_lot h k).pieces) b)
told h (brings k) = two (best (the_lot h k).made (all (the_lot h k).pieces)) (paid_by (length (the_lot h k).made) (the_lot h k).made (all (the_lot h k).pieces))
told h (lot_is k) = two (the_lot h k).pieces (the_lot h k).until
told h (garbled n) = number 0

abbrev pub answer : Limits → House → Call → Answer
answer l h c = pick (turned l h c == 0) (told h c) (refused (turned l h c) (place c (turned l h c)))

unfoldable pub answers : Limits → House → List Call → List Answer
answers l h [] = []
answers l h (c ∷ cs) = answer l h c ∷ answers l (after l h c) cs

unfoldable pub ran : Limits → House → List Call → House
ran l h [] = h
ran l h (c ∷ cs) = ran l (after l h c) cs

abbrev pub new_house : House
new_house = record { now = 0; lots = [] }
