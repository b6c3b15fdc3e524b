-- What the checks say of a memory and a call: why the call is turned away, or that it is taken, with what its deed asks for. Assumes nothing: these are definitions.
use Rattle.std.specs.Prelude.{◌≡◌, ℕ, ◌+◌, ◌<◌, ◌≤◌, List, length, slice_index}
use Rattle.auction.specs.Bids.{Bids}
use Rattle.auction.specs.House.{Call, opens, bids, ticks, my_bids, lot_is, refused, number, two, list}
use Rattle.bundles.specs.Offers.{all_meant}
use Rattle.bundles.specs.Rows.{held}
use Rattle.keeper.specs.Keeping.{next_in, place_in, says_in, turned_in}
use Rattle.ledger.specs.Houses.{Stands, limits_in, with_lot, with_now}
use Rattle.ledger.specs.Layout.{house_words, lot_at, now_at}
use Rattle.ledger.specs.Words.{bids_at, with_row}
use Rattle.ledger.specs.declared.lots.Lot.{Lot}
use Rattle.ledger.specs.declared.standing.Header.{Header}
use Rattle.wire.specs.Refusals.{refusal_number}
use Rattle.rules.specs.declared.bidding.Taking.{Taking}
use Rattle.rules.specs.declared.showing.Showing.{Showing}
use Rattle.rules.specs.declared.turned.Turned.{Turned}

-- the call is turned away, by this refusal and at this place: that is what the house says, and its words stay as they are
pub record Refuses (m : List ℕ) (c : Call) (t : Turned) : Type 0 where
  pub number : refusal_number t.refusal ≡ turned_in m c
  pub place : t.place ≡ place_in m c
  pub some : 0 < turned_in m c
  pub said : says_in m c ≡ refused (refusal_number t.refusal) t.place
  pub kept : next_in m c ≡ m

-- a lot of so many pieces can be opened until a tick, in a house with this header
pub record Opens (m : List ℕ) (pieces until : ℕ) (h : Header) : Type 0 where
  pub taken : turned_in m (opens pieces until) ≡ 0
  pub stands : Stands m h
  pub room : lot_at h.count + 1 < length m
  pub few : h.count < 4096
  pub said : says_in m (opens pieces until) ≡ number h.count
  pub after : next_in m (opens pieces until) ≡ with_lot m h.count pieces until

-- a bidder's bids on a lot can be replaced by these, which are the row's
pub record Takes (m : List ℕ) (k b : ℕ) (bs : Bids) (t : Taking) : Type 0 where
  pub taken : turned_in m (bids k b bs) ≡ 0
  pub limits : t.place.limits ≡ limits_in m
  pub lot : t.place.lot ≡ k
  pub bidder : t.place.bidder ≡ b
  pub room : house_words t.place.limits ≤ length m
  pub made : all_meant (held t.row) ≡ bs
  pub few : length (held t.row) ≤ t.place.limits.each
  pub said : says_in m (bids k b bs) ≡ number (length bs)
  pub after : next_in m (bids k b bs) ≡ with_row t.place.limits m k b bs

-- so many ticks can go by, and then it is this late
pub record Ticks (m : List ℕ) (n : ℕ) (t : ℕ) : Type 0 where
  pub taken : turned_in m (ticks n) ≡ 0
  pub words : 8 ≤ length m
  pub time : t ≡ slice_index m now_at + n
  pub said : says_in m (ticks n) ≡ number t
  pub after : next_in m (ticks n) ≡ with_now m t

-- a bidder's bids on a lot can be shown, in a house with this header, and have this place
pub record Shows (m : List ℕ) (k b : ℕ) (s : Showing) : Type 0 where
  pub taken : turned_in m (my_bids k b) ≡ 0
  pub stands : Stands m s.header
  pub limits : s.place.limits ≡ limits_in m
  pub lot : s.place.lot ≡ k
  pub bidder : s.place.bidder ≡ b
  pub room : house_words s.place.limits ≤ length m
  pub said : says_in m (my_bids k b) ≡ list (bids_at s.place.limits m k b)
  pub after : next_in m (my_bids k b) ≡ m

-- a lot can be told of, and this is it
pub record Tells (m : List ℕ) (k : ℕ) (l : Lot) : Type 0 where
  pub taken : turned_in m (lot_is k) ≡ 0
  pub said : says_in m (lot_is k) ≡ two l.pieces l.until
  pub after : next_in m (lot_is k) ≡ m
