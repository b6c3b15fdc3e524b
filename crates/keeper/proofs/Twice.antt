-- Bids in the place of bids: the same calls are taken as before, and what was bid first leaves no trace. Assumes nothing.
use Rattle.std.proofs.Common.{◌≡◌, ℕ, ◌+◌, ◌<◌, true, List, length, get_or, sym, ap, ◌∙◌, subst, ap₂, arith}
use Rattle.auction.specs.Bids.{Bids, pick}
use Rattle.auction.specs.House.{House, Lot, bids, good_call, the_lot, turned_by, turned, Limits as AllLimits}
use Rattle.auction.proofs.HouseLaws.{pick_zero}
use Rattle.ledger.specs.declared.layout.Limits.{Limits}
use Rattle.ledger.specs.declared.standing.Header.{Header}
use Rattle.ledger.specs.Layout.{now_at, count_at, lot_at}
use Rattle.ledger.specs.Words.{with_row}
use Rattle.ledger.specs.Houses.{limits_in, limits_of, header_in, house_in, fits, is_house}
use Rattle.ledger.specs.Laws.{RowWritten, RowsComeBack}
use Rattle.ledger.proofs.Houses.{FitsFacts, house_facts, many_lots, lot_there, same_limits, same_header}
use Rattle.ledger.proofs.LedgerLaws.{rows_come_back}
use Rattle.ledger.proofs.RowDeeds.{with_row_below}
use Rattle.keeper.specs.Keeping.{can_do, limits_now, turned_in, next_in}
use Rattle.keeper.specs.Promises.{NoTrace}
use Rattle.keeper.proofs.OneCall.{RowAsked, row_asked, turned_house, next-taken}

-- bids are taken on what a house says of their lot, and of nothing else
bids_turned : (l : AllLimits) (h g : House) (k b : ℕ) (bs : Bids) → h.now ≡ g.now → length h.lots ≡ length g.lots → (the_lot h k).pieces ≡ (the_lot g k).pieces → (the_lot h k).until ≡ (the_lot g k).until
    → turned l h (bids k b bs) ≡ turned l g (bids k b bs)
bids_turned l h g k b bs time count pieces until =
    let same : turned_by l h (bids k b bs) ≡ turned_by l g (bids k b bs) = cc (time, count, pieces, until) in
    ap (λ (n : ℕ). pick (good_call l (bids k b bs)) n 2) same

-- a row is written on words that are a house
module _ (m : List ℕ) (k b : ℕ) (xs : Bids) (house : is_house m ≡ true) (a : RowAsked m k b xs) where
  facts : FitsFacts (header_in m) (length m)
  facts = house_facts m house

  there : k < get_or m 0 0
  there = omega (arith, facts.few, a.lot)

  written : RowWritten (limits_in m) m k b xs (with_row (limits_in m) m k b xs)
  unfolding RowsComeBack
  written = rows_come_back (limits_in m) m k b xs (record { good = facts.good; lot = there; bidder = a.bidder }) facts.room a.few

  -- the header and the lots are as they were
  low : (i : ℕ) → i < lot_at (get_or m 0 0) → get_or (with_row (limits_in m) m k b xs) i 0 ≡ get_or m i 0
  low i h = with_row_below (limits_in m) m k b xs there a.bidder facts.room a.few i (omega arith)

  limits_stay : limits_in (with_row (limits_in m) m k b xs) ≡ limits_in m
  limits_stay = same_limits m (with_row (limits_in m) m k b xs) (low 0 (omega arith)) (low 1 (omega arith)) (low 2 (omega arith))

  header_stays : header_in (with_row (limits_in m) m k b xs) ≡ header_in m
  header_stays = same_header m (with_row (limits_in m) m k b xs) (get_or m now_at 0) (get_or m count_at 0) limits_stay (low now_at (omega arith)) (low count_at (omega arith))

  still_house : is_house (with_row (limits_in m) m k b xs) ≡ true
  unfolding is_house
  still_house = ap₂ (λ (h : Header) (n : ℕ). fits h n) header_stays written.len ∙ house

  lot_still : k < get_or (with_row (limits_in m) m k b xs) count_at 0
  lot_still = omega (arith, low count_at (omega arith), a.lot)

  still_turned : (ys : Bids) → turned (limits_now (with_row (limits_in m) m k b xs)) (house_in (with_row (limits_in m) m k b xs)) (bids k b ys) ≡ turned (limits_now m) (house_in m) (bids k b ys)
  unfolding house_in
  still_turned ys =
      let w : List ℕ = with_row (limits_in m) m k b xs in
      ap (λ (l : Limits). turned (limits_of can_do l) (house_in w) (bids k b ys)) limits_stay
      ∙ bids_turned (limits_now m) (house_in w) (house_in m) k b ys (low now_at (omega arith)) (many_lots w ∙ low count_at (omega arith) ∙ sym (many_lots m))
      (ap (λ (o : Lot). o.pieces) (lot_there w k lot_still) ∙ low (lot_at k) (omega (arith, there)) ∙ sym (ap (λ (o : Lot). o.pieces) (lot_there m k a.lot)))
      (ap (λ (o : Lot). o.until) (lot_there w k lot_still) ∙ low (lot_at k + 1) (omega (arith, there)) ∙ sym (ap (λ (o : Lot). o.until) (lot_there m k a.lot)))

-- bids that could be taken are taken after others too, and the words are then as if those had never been
pub no_trace : NoTrace
unfolding NoTrace
no_trace = λ m k b xs ys e f.
    let first = pick_zero (is_house m) _ _ e in
    let second = pick_zero (is_house m) _ _ f in
    let a = row_asked m k b xs first.1 in
    let w : List ℕ = with_row (limits_in m) m k b xs in
    let taken : turned_in w (bids k b ys) ≡ 0 = turned_house w (bids k b ys) (still_house m k b xs first.0 a) ∙ still_turned m k b xs first.0 a ys ∙ second.1 in
    subst (λ (v : List ℕ). (turned_in v (bids k b ys) ≡ 0) × (next_in v (bids k b ys) ≡ next_in m (bids k b ys))) (sym (next-taken m (bids k b xs) e)) (
      taken,
      next-taken w (bids k b ys) taken ∙ ap (λ (l : Limits). with_row l w k b ys) (limits_stay m k b xs first.0 a) ∙ (written m k b xs first.0 a).again ys ∙ sym (next-taken m (bids k b ys) f),
    )
