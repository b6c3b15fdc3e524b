-- What a text means: which lot it is, or the place at which it can't be read on and what was expected there. Assumes nothing: these are definitions.
use Rattle.std.specs.Prelude.{ℕ, zero, suc, ◌-◌, Bool, true, false, List, [], ◌∷◌, length, drop, None, Ok, Err, codes, Result, nat_lt}
use Rattle.auction.specs.Bids.{Bid, Bids, pick}
use Rattle.bundles.specs.Masks.{bits}
use Rattle.reading.specs.Calls.{at}
use Rattle.reading.specs.Lines.{byte, given, larger, next, piece, some_of, spelt}
use Rattle.lotreading.specs.Finds.{Find, and_then, expecting, found, found_of, missed}
use Rattle.lotreading.specs.Parts.{behind_blanks, blank_here, gap, ranged}
use Rattle.lotreading.specs.declared.expected.Expected.{Expected}
use Rattle.lotreading.specs.declared.expected.Expected.TheVariants.{Pieces, Colon, Bidder, Set, PieceOfLot, PieceOnce, PriceBehindSet, Price, SetBehindOr, SixteenBids, ThirtyTwoBidders, OrOrEnd, End}

-- a set with a piece more: one that the lot of n pieces has, and the set does not have yet
abbrev pub joined : ℕ → ℕ → ℕ → Result ℕ Expected
joined n m p = pick (nat_lt p n) (given (larger m p) (Err PieceOnce) (λ k. Ok k)) (Err PieceOfLot)

-- does a set begin here?
abbrev pub set_here : List ℕ → Bool
set_here bs = given (given (next bs) None piece) false (λ _. true)

-- a set of pieces of the lot, none twice, as the bits of a number
abbrev pub set_of : ℕ → List ℕ → Find ℕ
set_of n bs = found_of (some_of piece (joined n) 0 Set bs)

abbrev pub price : List ℕ → Find ℕ
price bs = expecting Price (ranged 1 1000000000 bs)

-- a set and a price
abbrev pub bid : ℕ → List ℕ → Find Bid
bid n bs = and_then (set_of n bs) (λ m left. and_then (expecting PriceBehindSet (gap left)) (λ _ from. and_then (price from) (λ p behind. found (record { on = bits 16 m; price = p }) behind)))

-- one thing or more, at most k: `more` says, behind a thing, whether another follows, which it may or may not
unfoldable pub several : {X : Type 0} → (List ℕ → Find X) → (Bool → X → List ℕ → Find Bool) → ℕ → List ℕ → Find (List X)
several one more zero bs = found [] bs
several one more (suc k) bs =
    and_then (one bs) (λ x left. and_then (more (nat_lt 0 k) x left) (λ t from. pick t (and_then (several one more k from) (λ xs behind. found (x ∷ xs) behind)) (found (x ∷ []) from)))

-- `or`, with blanks around it
abbrev pub or_at : Bool → List ℕ → Find Bool
or_at may bs = pick (at 111 bs) (pick may (and_then (expecting OrOrEnd (spelt (codes "or") bs)) (λ _ left. and_then (expecting SetBehindOr (gap left)) (λ _ from. found true from))) (missed SixteenBids bs)) (found false bs)

abbrev pub other_bid : Bool → List ℕ → Find Bool
other_bid may bs = pick (blank_here bs) (or_at may (behind_blanks bs)) (found false bs)

-- the bids of a bidder
abbrev pub bids : ℕ → List ℕ → Find Bids
bids n bs = several (bid n) (λ may _. other_bid may) 16 bs

abbrev pub bidder : ℕ → List ℕ → Find Bids
bidder n bs = pick (at 110 bs) (and_then (expecting Bidder (spelt (codes "nothing") bs)) (λ _ left. found [] left)) (pick (set_here bs) (bids n bs) (missed Bidder bs))

-- what may follow a bidder: no `or` behind `nothing`
abbrev pub behind_bidder : Bids → Expected
behind_bidder [] = End
behind_bidder (b ∷ bs) = OrOrEnd

-- `;`, with or without blanks around it, or the end
abbrev pub other_bidder_at : Bool → Bids → List ℕ → Find Bool
other_bidder_at may b bs =
    pick (at 59 bs) (pick may (found true (behind_blanks (drop 1 bs))) (missed ThirtyTwoBidders bs)) (given (next bs) (found false bs) (λ _. missed (behind_bidder b) bs))

abbrev pub other_bidder : Bool → Bids → List ℕ → Find Bool
other_bidder may b bs = other_bidder_at may b (behind_blanks bs)

abbrev pub bidders : ℕ → List ℕ → Find (List Bids)
bidders n bs = several (bidder n) other_bidder 32 bs

-- how many pieces, and a colon
abbrev pub front : List ℕ → Find ℕ
front bs =
    and_then (expecting Pieces (ranged 1 16 (behind_blanks bs))) (λ n left. and_then (expecting Colon (byte 58 (behind_blanks left))) (λ _ from. found n (behind_blanks from)))

-- the lot, of so many pieces and with these bids of each bidder, or how much of the text fits and what was expected behind that
pub data Reading : Type 0 where
  the_lot : ℕ → List Bids → Reading
  misread : ℕ → Expected → Reading

abbrev pub lot : List ℕ → Find Reading
lot bs = and_then (front bs) (λ n left. and_then (bidders n left) (λ bss behind. found (the_lot n bss) behind))

abbrev pub placed : List ℕ → Find Reading → Reading
placed bs (found l left) = l
placed bs (missed e left) = misread (length bs - length left) e

abbrev pub lot_in : List ℕ → Reading
lot_in bs = placed bs (lot bs)
