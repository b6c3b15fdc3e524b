-- A row of bids is written: what that does to the house that the words hold, and that it leaves them sound. Assumes nothing.
use Rattle.std.proofs.lemmas.Grind.{common_steps}
use Rattle.std.proofs.Common.{◌≡◌, ℕ, ◌+◌, ◌-◌, ◌*◌, ◌<◌, ◌≤◌, Bool, true, ◌≢◌, List, length, get_or, set, sym, ap, ◌∙◌, subst, ⊎_elim, arith}
use Rattle.std.proofs.lemmas.Bool.{cases_lt}
use Rattle.auction.specs.Bids.{Bids}
use Rattle.auction.specs.House.{House, Lot, changed, bids}
use Rattle.ledger.specs.declared.layout.Limits.{Limits}
use Rattle.ledger.specs.Layout.{now_at, count_at, row_at, row_size, house_words}
use Rattle.ledger.specs.Words.{row_words, row_part, bids_at, row_over, with_row, writable}
use Rattle.ledger.specs.Houses.{limits_in, limits_of, header_in, made_in, lot_in, house_in, is_house, Sound}
use Rattle.ledger.proofs.Parts.{same_part, length_over, over_below, over_above, over_within, part_over, map_change}
use Rattle.ledger.proofs.Places.{row_number, row_within, row_before, same_number, lot_within}
use Rattle.ledger.proofs.RowWords.{length-row_words, read_back, row_below}
use Rattle.ledger.proofs.Houses.{FitsFacts, house_facts, lot_there, same_limits, same_header, house_by}
use Rattle.ledger.proofs.Sounds.{same_lot, sound_by}

-- a row of bids is written
module _ (l : Limits) (m : List ℕ) (k b : ℕ) (bs : Bids) (hk : k < l.lots) (hb : b < l.bidders) (room : house_words l ≤ length m) (few : length bs ≤ l.each) where
  fits_row : row_at l k b + row_size l ≤ length m
  fits_row = omega (arith, row_within l k b hk hb)

  whole : length (row_words (row_size l) bs) ≡ row_size l
  whole = length-row_words (row_size l) bs (omega arith)

  pub length-with_row : length (with_row l m k b bs) ≡ length m
  unfolding row_over
  length-with_row = grind (arith, common_steps, length_over, fits_row, whole)

  -- exactly the row's words are others
  pub with_row_below : (i : ℕ) → i < row_at l k b → get_or (with_row l m k b bs) i 0 ≡ get_or m i 0
  unfolding row_over
  with_row_below = grind (arith, common_steps, over_below, fits_row, whole)

  pub with_row_above : (i : ℕ) → row_at l k b + row_size l ≤ i → get_or (with_row l m k b bs) i 0 ≡ get_or m i 0
  unfolding row_over
  with_row_above = grind (arith, common_steps, over_above, fits_row, whole)

  pub with_row-within : (i : ℕ) → row_at l k b ≤ i → i < row_at l k b + row_size l → get_or (with_row l m k b bs) i 0 ≡ get_or (row_words (row_size l) bs) (i - row_at l k b) 0
  unfolding row_over
  with_row-within = grind (arith, common_steps, over_within, fits_row, whole)

  pub row_there : writable bs ≡ true → bids_at l (with_row l m k b bs) k b ≡ bs
  unfolding row_over
  row_there w = grind (arith, common_steps, part_over, fits_row, whole, read_back)

  pub other_row : (j c : ℕ) → j * l.bidders + c ≢ k * l.bidders + b → row_part l (with_row l m k b bs) j c ≡ row_part l m j c
  other_row j c ne = grind (arith, common_steps, same_part, length-with_row, with_row_below, row_before, with_row_above)

  -- no other lot is changed, and of this one nothing but the bidder's bids
  other_lot : (j : ℕ) → j < l.lots → j ≢ k → lot_in l (with_row l m k b bs) j ≡ lot_in l m j
  other_lot j h ne =
      let low = lot_within l j k b h in
      same_lot l m (with_row l m k b bs) j (with_row_below _ (omega arith)) (with_row_below _ (omega arith))
      (λ c hc. other_row j c (λ e. ne (same_number j c k b l.bidders hc hb e).0))

  this_lot : writable bs ≡ true → lot_in l (with_row l m k b bs) k ≡ record { pieces = (lot_in l m k).pieces; until = (lot_in l m k).until; made = set (made_in l m k) b bs }
  this_lot w = grind (arith, common_steps, lot_within, with_row_below, map_change, row_there, other_row, same_number)

-- the words of a house after a row was written, from what the header says
module _ (m : List ℕ) (k b : ℕ) (bs : Bids) (house : is_house m ≡ true) (hk : k < get_or m count_at 0) (hb : b < get_or m 1 0) (few : length bs ≤ get_or m 2 0) where
  facts : FitsFacts (header_in m) (length m)
  facts = house_facts m house

  there : k < get_or m 0 0
  there = omega (arith, facts.few)

  low_words : (i : ℕ) → i < 8 → get_or (with_row (limits_in m) m k b bs) i 0 ≡ get_or m i 0
  low_words i h = with_row_below (limits_in m) m k b bs there hb facts.room few i (omega arith)

  limits_stay : limits_in (with_row (limits_in m) m k b bs) ≡ limits_in m
  limits_stay = grind (arith, common_steps, same_limits, low_words)

  pub row_house : writable bs ≡ true → (can : ℕ → Bool) → house_in (with_row (limits_in m) m k b bs) ≡ changed (limits_of can (limits_in m)) (house_in m) (bids k b bs)
  unfolding house_in
  row_house w can =
      let l = limits_in m in
      let v : List ℕ = with_row l m k b bs in
      let n : ℕ = get_or m count_at 0 in
      let few-lots : n ≤ get_or m 0 0 = facts.few in
      house_by v l (get_or m now_at 0) n limits_stay (low_words now_at (omega arith)) (low_words count_at (omega arith))
      ∙ ap {B = House} (λ x. record { now = get_or m now_at 0; lots = x })
      (map_change (lot_in l m) (lot_in l v) n k _ hk (this_lot l m k b bs there hb facts.room few w ∙ ap (λ (o : Lot). record { pieces = o.pieces; until = o.until; made = set o.made b bs }) (sym (lot_there m k hk)))
      (λ j hj ne. other_lot l m k b bs there hb facts.room few j (omega arith) ne))

  pub row_sound : writable bs ≡ true → Sound m → Sound (with_row (limits_in m) m k b bs)
  row_sound w s =
      let l = limits_in m in
      let v : List ℕ = with_row l m k b bs in
      let n : ℕ = get_or m count_at 0 in
      let at : ℕ = row_at l k b in
      let long = length-with_row l m k b bs there hb facts.room few in
      let before = row_before l k b n 0 (omega (arith, row_number k b n l.bidders hk hb)) in
      sound_by v (header_in m) (same_header m v (get_or m now_at 0) n limits_stay (low_words now_at (omega arith)) (low_words count_at (omega arith)))
      (subst (FitsFacts (header_in m)) (sym long) facts)
      (λ i. ⊎_elim (λ low. subst (λ x. x < 4294967296) (sym (with_row_below l m k b bs there hb facts.room few i low)) (s.words i))
      (λ high. ⊎_elim (λ within. subst (λ x. x < 4294967296) (sym (with_row-within l m k b bs there hb facts.room few i high within)) (row_below (row_size l) bs w (i - at)))
      (λ past. subst (λ x. x < 4294967296) (sym (with_row_above l m k b bs there hb facts.room few i past)) (s.words i))
      (cases_lt i (at + row_size l)))
      (cases_lt i at))
      (λ i from to. with_row_below l m k b bs there hb facts.room few i (omega arith) ∙ s.lots i from to)
      (λ i from to. with_row_above l m k b bs there hb facts.room few i (omega arith) ∙ s.rest i from to)
