-- What lies behind a house's words has no part in the house, and stays as it is. Assumes nothing.
use Rattle.std.proofs.Common.{◌≡◌, ℕ, ◌+◌, ◌<◌, ◌≤◌, true, ◌⊎◌, List, ◌++◌, length, get_or, take, drop, set, sym, refl, ap, ◌∙◌, subst, ap₂, inl, inr, arith}
use Rattle.std.proofs.lemmas.List.{append_assoc, length-append, length-drop, length-set, get_or_append_left, set-append_left, take-append-le, drop-append-le}
use Rattle.std.proofs.lemmas.Bool.{cases_eq}
use Rattle.auction.specs.Bids.{Bids}
use Rattle.auction.specs.House.{Call, opens, bids, ticks, my_bids, result, brings, lot_is, garbled, House, turned, answer, Limits as AllLimits}
use Rattle.ledger.specs.Layout.{now_at, count_at, lot_at, row_at, row_size, house_words}
use Rattle.ledger.specs.Words.{row_words, row_part, row_over, with_row}
use Rattle.ledger.specs.Houses.{limits_in, limits_of, header_in, lot_in, house_in, is_house, with_lot}
use Rattle.ledger.proofs.Parts.{map_same}
use Rattle.ledger.proofs.Places.{row_within}
use Rattle.ledger.proofs.Houses.{FitsFacts, house_facts, facts_fit, same_limits, same_header, house_by}
use Rattle.ledger.proofs.Sounds.{same_lot}
use Rattle.keeper.specs.Keeping.{can_do, limits_now, turned_in, edit, next_in, says_in}
use Rattle.keeper.specs.Promises.{BehindStays}
use Rattle.keeper.proofs.OneCall.{room_for_lot, row_asked, turned_house, says_house, next-taken, next_refused}

-- bids written over a part that is in front
row_over-front : (m r : List ℕ) (at n : ℕ) (bs : Bids) → at + n ≤ length m → row_over (m ++ r) at n bs ≡ row_over m at n bs ++ r
unfolding row_over
row_over-front m r at n bs h =
    ap₂ (λ (front back : List ℕ). front ++ (row_words n bs ++ back)) (take-append-le at m r (omega arith)) (drop-append-le (at + n) m r h)
    ∙ ap (λ (xs : List ℕ). take at m ++ xs) (sym (append_assoc (row_words n bs) (drop (at + n) m) r))
    ∙ sym (append_assoc (take at m) (row_words n bs ++ drop (at + n) m) r)

module _ (m r : List ℕ) (house : is_house m ≡ true) where
  front_facts : FitsFacts (header_in m) (length m)
  front_facts = house_facts m house

  front_at : (i : ℕ) → i < house_words (limits_in m) → get_or (m ++ r) i 0 ≡ get_or m i 0
  front_at i h = get_or_append_left m r 0 i (omega (arith, front_facts.room))

  front_limits : limits_in (m ++ r) ≡ limits_in m
  front_limits = same_limits m (m ++ r) (front_at 0 (omega arith)) (front_at 1 (omega arith)) (front_at 2 (omega arith))

  front_row : (k b : ℕ) → k < get_or m 0 0 → b < get_or m 1 0 → row_part (limits_in m) (m ++ r) k b ≡ row_part (limits_in m) m k b
  front_row k b hk hb =
      let l = limits_in m in
      let within = row_within l k b hk hb in
      let long = length-drop (row_at l k b) m in
      ap (take (row_size l)) (drop-append-le (row_at l k b) m r (omega (arith, front_facts.room)))
      ∙ take-append-le (row_size l) (drop (row_at l k b) m) r (omega (arith, front_facts.room))

  front_lot : (k : ℕ) → k < get_or m count_at 0 → lot_in (limits_in m) (m ++ r) k ≡ lot_in (limits_in m) m k
  front_lot k h =
      let there : k < get_or m 0 0 = omega (arith, front_facts.few) in
      same_lot (limits_in m) m (m ++ r) k (front_at (lot_at k) (omega arith)) (front_at (lot_at k + 1) (omega arith)) (λ b hb. front_row k b there hb)

  pub front_house : house_in (m ++ r) ≡ house_in m
  front_house =
      let l = limits_in m in
      let n : ℕ = get_or m count_at 0 in
      house_by (m ++ r) l (get_or m now_at 0) n front_limits (front_at now_at (omega arith)) (front_at count_at (omega arith))
      ∙ ap {B = House} (λ x. record { now = get_or m now_at 0; lots = x }) (map_same (lot_in l m) (lot_in l (m ++ r)) n front_lot)
      ∙ sym (house_by m l (get_or m now_at 0) n refl refl refl)

  pub front-is_house : is_house (m ++ r) ≡ true
  unfolding is_house
  front-is_house =
      let header = same_header m (m ++ r) (get_or m now_at 0) (get_or m count_at 0) front_limits (front_at now_at (omega arith)) (front_at count_at (omega arith)) in
      facts_fit (header_in (m ++ r)) (length (m ++ r))
      (subst (λ x. FitsFacts x (length (m ++ r))) (sym header)
      (record { good = front_facts.good; room = omega (arith, front_facts.room, length-append m r); few = front_facts.few; early = front_facts.early }))

  front_now : limits_now (m ++ r) ≡ limits_now m
  front_now = ap {B = AllLimits} (limits_of can_do) front_limits

  front-turned : (c : Call) → turned_in (m ++ r) c ≡ turned_in m c
  front-turned c =
      turned_house (m ++ r) c front-is_house ∙ ap₂ (λ (l : AllLimits) (h : House). turned l h c) front_now front_house ∙ sym (turned_house m c house)

  pub front_says : (c : Call) → says_in (m ++ r) c ≡ says_in m c
  front_says c =
      says_house (m ++ r) c front-is_house ∙ ap₂ (λ (l : AllLimits) (h : House). answer l h c) front_now front_house ∙ sym (says_house m c house)

  front_opens : (n t : ℕ) → turned (limits_now m) (house_in m) (opens n t) ≡ 0 → edit (m ++ r) (opens n t) ≡ edit m (opens n t) ++ r
  front_opens n t e =
      let k : ℕ = get_or m count_at 0 in
      let more : k < get_or m 0 0 = room_for_lot m n t e in
      let room : lot_at k + 1 < length m = omega (arith, front_facts.room) in
      let one : List ℕ = set m (lot_at k) n in
      let both : List ℕ = set one (lot_at k + 1) t in
      let long-one = length-set m (lot_at k) n in
      let long-both = length-set one (lot_at k + 1) t in
      ap (λ (j : ℕ). with_lot (m ++ r) j n t) (front_at count_at (omega arith))
      ∙ ap (λ (w : List ℕ). set (set w (lot_at k + 1) t) count_at (k + 1)) (set-append_left m r (lot_at k) n (omega arith))
      ∙ ap (λ (w : List ℕ). set w count_at (k + 1)) (set-append_left one r (lot_at k + 1) t (omega arith))
      ∙ set-append_left both r count_at (k + 1) (omega arith)

  front_bids : (k b : ℕ) (bs : Bids) → turned (limits_now m) (house_in m) (bids k b bs) ≡ 0 → edit (m ++ r) (bids k b bs) ≡ edit m (bids k b bs) ++ r
  front_bids k b bs e =
      let l = limits_in m in
      let a = row_asked m k b bs e in
      let there : k < get_or m 0 0 = omega (arith, front_facts.few, a.lot) in
      let within = row_within l k b there a.bidder in
      ap (λ x. with_row x (m ++ r) k b bs) front_limits ∙ row_over-front m r (row_at l k b) (row_size l) bs (omega (arith, front_facts.room))

  front_ticks : (n : ℕ) → edit (m ++ r) (ticks n) ≡ edit m (ticks n) ++ r
  front_ticks n =
      ap (λ (t : ℕ). set (m ++ r) now_at (t + n)) (front_at now_at (omega arith)) ∙ set-append_left m r now_at (get_or m now_at 0 + n) (omega (arith, front_facts.room))

  front-edit : (c : Call) → turned (limits_now m) (house_in m) c ≡ 0 → edit (m ++ r) c ≡ edit m c ++ r
  front-edit (opens n t) e = front_opens n t e
  front-edit (bids k b bs) e = front_bids k b bs e
  front-edit (ticks n) e = front_ticks n
  front-edit (my_bids k b) e = refl
  front-edit (result k b) e = refl
  front-edit (brings k) e = refl
  front-edit (lot_is k) e = refl
  front-edit (garbled n) e = refl

  pub front-next : (c : Call) → next_in (m ++ r) c ≡ next_in m c ++ r
  front-next c = go (cases_eq (turned_in m c) 0)
    where
      go : (turned_in m c ≡ 0) ⊎ (turned_in m c ≡ 0 → ⊥) → next_in (m ++ r) c ≡ next_in m c ++ r
      go (inl e) =
          next-taken (m ++ r) c (front-turned c ∙ e) ∙ front-edit c (sym (turned_house m c house) ∙ e) ∙ ap (λ (w : List ℕ). w ++ r) (sym (next-taken m c e))
      go (inr n) =
          next_refused (m ++ r) c (λ z. n (sym (front-turned c) ∙ z)) ∙ ap (λ (w : List ℕ). w ++ r) (sym (next_refused m c n))

pub behind_stays : BehindStays
unfolding BehindStays
behind_stays = λ m r c house. (front-next m r house c, front_says m r house c)
