-- The house that words hold. Assumes nothing.
use Rattle.std.proofs.lemmas.Grind.{common_steps}
use Rattle.std.proofs.Common.{◌≡◌, ℕ, suc, ◌<◌, ◌≤◌, true, false, List, [], ◌∷◌, map, length, get_or, refl, ap, ◌∙◌, ⊎_elim, zero-add, arith}
use Rattle.std.specs.List.{range_with_len}
use Rattle.std.proofs.lemmas.List.FromFn.{length-map-range_with_len, get_or-map-range_with_len}
use Rattle.std.proofs.lemmas.Bool.{cases_Bool, and_from, lt-ltb}
use Rattle.auction.specs.House.{Lot, the_lot}
use Rattle.auction.specs.Promise.{all_below}
use Rattle.ledger.specs.declared.layout.Limits.{Limits}
use Rattle.ledger.specs.declared.standing.Header.{Header}
use Rattle.ledger.specs.Layout.{Good, now_at, count_at, house_words}
use Rattle.ledger.specs.Words.{bids_at}
use Rattle.ledger.specs.Houses.{limits_in, header_in, made_in, lot_in, house_in, fits, is_house, Stands}

-- the tests of a header, as facts
pub record FitsFacts (h : Header) (n : ℕ) : Type 0 where
  pub good : Good h.limits
  pub room : house_words h.limits ≤ n
  pub few : h.count ≤ h.limits.lots
  pub early : h.now < 16777216

pub fits_facts : (h : Header) (n : ℕ) → fits h n ≡ true → FitsFacts h n
fits_facts h n e = grind (arith, common_steps)

pub facts_fit : (h : Header) (n : ℕ) → FitsFacts h n → fits h n ≡ true
facts_fit h n f = grind (arith, common_steps)

pub house_facts : (m : List ℕ) → is_house m ≡ true → FitsFacts (header_in m) (length m)
unfolding is_house
house_facts m e = fits_facts (header_in m) (length m) e

-- the lots of the house that words hold, by their places
pub many_lots : (m : List ℕ) → length (house_in m).lots ≡ get_or m count_at 0
unfolding house_in
many_lots m = length-map-range_with_len (lot_in (limits_in m) m) 0 (get_or m count_at 0)

pub lot_there : (m : List ℕ) (k : ℕ) → k < get_or m count_at 0 → the_lot (house_in m) k ≡ lot_in (limits_in m) m k
unfolding house_in
lot_there m k h = grind (arith, common_steps, get_or-map-range_with_len)

pub bids_there : (l : Limits) (m : List ℕ) (k b : ℕ) → b < l.bidders → get_or (made_in l m k) b [] ≡ bids_at l m k b
bids_there l m k b h = get_or-map-range_with_len (bids_at l m k) 0 l.bidders b b [] h (zero-add b)

-- what the header of a house tells
pub standing : (m : List ℕ) → is_house m ≡ true → Stands m (header_in m)
unfolding house_in is_house
standing m e =
    let f = fits_facts (header_in m) (length m) e in
    let l = limits_in m in
    record {
      house = e;
      header = refl;
      good = f.good;
      room = f.room;
      few = f.few;
      early = f.early;
      time = refl;
      many = many_lots m;
      pieces = λ k h. ap (λ (o : Lot). o.pieces) (lot_there m k h);
      until = λ k h. ap (λ (o : Lot). o.until) (lot_there m k h);
      bidders = λ k h. ap (λ (o : Lot). length o.made) (lot_there m k h) ∙ length-map-range_with_len (bids_at l m k) 0 l.bidders;
      bids = λ k b h hb. ap (λ (o : Lot). get_or o.made b []) (lot_there m k h) ∙ bids_there l m k b hb;
    }

-- what a house is by its header's words
pub same_limits : (m w : List ℕ) → get_or w 0 0 ≡ get_or m 0 0 → get_or w 1 0 ≡ get_or m 1 0 → get_or w 2 0 ≡ get_or m 2 0 → limits_in w ≡ limits_in m
same_limits m w a b c = cc

pub same_header : (m w : List ℕ) (t n : ℕ) → limits_in w ≡ limits_in m → get_or w now_at 0 ≡ t → get_or w count_at 0 ≡ n → header_in w ≡ record { limits = limits_in m; now = t; count = n }
same_header m w t n e a b = cc

pub house_by : (w : List ℕ) (l : Limits) (t n : ℕ) → limits_in w ≡ l → get_or w now_at 0 ≡ t → get_or w count_at 0 ≡ n → house_in w ≡ record { now = t; lots = map (lot_in l w) (range_with_len 0 n) }
unfolding house_in
house_by w l t n e a b = grind (arith, common_steps)

-- no house is smaller than one with one bidder and no lots
pub too_short : (m : List ℕ) → length m < 655360 → is_house m ≡ false
too_short m h = ⊎_elim (λ e. let f = house_facts m e in absurd (omega (arith, f.good.1, f.room))) (λ e. e) (cases_Bool (is_house m))

-- words that fit, as the promise of enough memory says it
pub all_fit : (m : List ℕ) → ((i : ℕ) → get_or m i 0 < 4294967296) → all_below 4294967296 m ≡ true
unfolding all_below
all_fit [] below = refl
all_fit (x ∷ m) below = and_from _ _ (lt-ltb x _ (below 0)) (all_fit m (λ i. below (suc i)))
