-- Finding lots: by number, and in the order in which they close. Over the list of lots that words hold, for any words. Assumes nothing: these are definitions.
use Rattle.std.specs.Prelude.{◌≡◌, ℕ, ◌+◌, ◌<◌, Bool, true, false, ◌&&◌, ◌||◌, List, [], length, Some, None, count_by, Option, MatchOption, ◌==◌, nat_le, nat_lt, slice_index_or}
use Rattle.auction.specs.Bids.{pick}
use Rattle.auction.specs.House.{Lot}
use Rattle.ledger.specs.declared.finding.Closing.{Closing}
use Rattle.ledger.specs.declared.lots.Lot.{Lot as LotWords}
use Rattle.ledger.specs.Layout.{lot_at}
use Rattle.ledger.specs.Houses.{house_in, is_house, lot_words}

-- the lots of the house that words hold, and no lots where they are no house
unfoldable pub lots_in : List ℕ → List Lot
lots_in m = pick (is_house m) (house_in m).lots []

abbrev pub lot_of_list : List Lot → ℕ → Lot
lot_of_list os k = slice_index_or os k (record { pieces = 0; until = 0; made = [] })

-- a lot by its number, and where it stands
abbrev pub numbered : List Lot → ℕ → Option LotWords
numbered os k = pick (nat_lt k (length os)) (Some (record { pieces = (lot_of_list os k).pieces; until = (lot_of_list os k).until })) None

abbrev pub place_of : List Lot → ℕ → Option ℕ
place_of os k = pick (nat_lt k (length os)) (Some (lot_at k)) None

-- there is such a lot, and it is this one; its words are in the memory
pub record IsOpen (m : List ℕ) (k lot : ℕ) : Type 0 where
  pub same : lot ≡ k
  pub room : lot_at lot + 1 < length m
  pub words : numbered (lots_in m) k ≡ Some (lot_words m lot)
  pub place : place_of (lots_in m) k ≡ Some (lot_at lot)

-- how many lots are closed at a tick
abbrev pub how_many_closed : ℕ → List Lot → ℕ
how_many_closed t os = count_by (λ (o : Lot). nat_le o.until t) os

-- the order of closing: by tick, and by number where the ticks are equal
abbrev pub before : Closing → Closing → Bool
before a b = nat_lt a.until b.until || (a.until == b.until && nat_lt a.number b.number)

-- it comes after a closing, where one is given
abbrev pub is_past : Option Closing → Closing → Bool
is_past None c = true
is_past (Some a) c = before a c

-- of n lots that close at these ticks, lot k; and the first past a closing: it is a lot's, it is past, and none that is past comes before it
abbrev pub closing : (ℕ → ℕ) → ℕ → Closing
closing ends k = record { until = ends k; number = k }

pub record FirstPast (n : ℕ) (ends : ℕ → ℕ) (from : Option Closing) (c : Closing) : Type 0 where
  pub lot : c.number < n
  pub tick : c.until ≡ ends c.number
  pub past : is_past from c ≡ true
  pub least : (k : ℕ) → k < n → is_past from (closing ends k) ≡ true → before (closing ends k) c ≡ false

-- what is found is that lot, and nothing where none is past
abbrev pub FindsFirst : ℕ → (ℕ → ℕ) → Option Closing → Option Closing → Type 0
FindsFirst n ends from r = MatchOption r ((k : ℕ) → k < n → is_past from (closing ends k) ≡ false) (λ c. FirstPast n ends from c)

abbrev pub NextClosing : List Lot → Option Closing → Option Closing → Type 0
NextClosing os from r = FindsFirst (length os) (λ k. (lot_of_list os k).until) from r
