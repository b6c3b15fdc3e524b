-- One lot more: what that does to the house that the words hold, and that it leaves them sound. Assumes nothing.
use Rattle.std.proofs.lemmas.Grind.{common_steps}
use Rattle.std.proofs.Common.{◌≡◌, ℕ, zero, suc, ◌+◌, ◌<◌, ◌≤◌, Bool, ◌≢◌, List, [], ◌∷◌, ◌++◌, map, length, get_or, drop, sym, refl, ap, ◌∙◌, subst, ap₂, ⊎_elim, arith}
use Rattle.std.specs.List.{range_with_len}
use Rattle.std.proofs.lemmas.List.FromFn.{map-range_with_len_more}
use Rattle.std.proofs.lemmas.List.{length-take, get_or-take, get_or-drop}
use Rattle.std.proofs.lemmas.Bool.{cases_eq}
use Rattle.auction.specs.Bids.{Bids}
use Rattle.auction.specs.House.{House, Lot, nobody, changed, opens}
use Rattle.ledger.specs.Layout.{now_at, count_at, lot_at, row_at, row_size, house_words}
use Rattle.ledger.specs.Words.{row_part, bids_at}
use Rattle.ledger.specs.Houses.{limits_in, limits_of, header_in, lot_in, house_in, Sound, with_lot}
use Rattle.ledger.proofs.Parts.{map_same}
use Rattle.ledger.proofs.Places.{past, row_within, row_before, lot_within, first_row}
use Rattle.ledger.proofs.RowWords.{bids_zero}
use Rattle.ledger.proofs.Houses.{FitsFacts, house_facts, same_header, house_by}
use Rattle.ledger.proofs.Sounds.{same_lot, sound_by}

-- nobody has bid
nobody_is : (f : ℕ → Bids) (n a : ℕ) → ((b : ℕ) → b < a + n → f b ≡ []) → map f (range_with_len a n) ≡ nobody n
unfolding nobody
nobody_is f zero a none = refl
nobody_is f (suc n) a none = ap₂ (λ x xs. x ∷ xs) (none a (omega arith)) (nobody_is f n (a + 1) (λ b h. none b (omega arith)))

-- the words with one lot more: three are others
module _ (m : List ℕ) (k p t : ℕ) (room : lot_at k + 1 < length m) where
  pub length-with_lot : length (with_lot m k p t) ≡ length m
  length-with_lot = grind (arith, common_steps)

  pub lot_other : (i : ℕ) → i ≢ lot_at k → i ≢ lot_at k + 1 → i ≢ count_at → get_or (with_lot m k p t) i 0 ≡ get_or m i 0
  lot_other i a b c = grind (arith, common_steps)

  pub lot_count : get_or (with_lot m k p t) count_at 0 ≡ k + 1
  lot_count = grind (arith, common_steps)

  pub lot_until : get_or (with_lot m k p t) (lot_at k + 1) 0 ≡ t
  lot_until = grind (arith, common_steps)

  pub lot_pieces : get_or (with_lot m k p t) (lot_at k) 0 ≡ p
  lot_pieces = grind (arith, common_steps)

  -- below the count, between it and the lot, and behind the lot nothing is changed
  pub lot_below : (i : ℕ) → i < count_at → get_or (with_lot m k p t) i 0 ≡ get_or m i 0
  lot_below i h = lot_other i (λ e. omega arith) (λ e. omega arith) (λ e. omega arith)

  pub lot_between : (i : ℕ) → count_at < i → i < lot_at k → get_or (with_lot m k p t) i 0 ≡ get_or m i 0
  lot_between i h h' = lot_other i (λ e. omega arith) (λ e. omega arith) (λ e. omega arith)

  pub lot_above : (i : ℕ) → lot_at k + 2 ≤ i → get_or (with_lot m k p t) i 0 ≡ get_or m i 0
  lot_above i h = lot_other i (λ e. omega arith) (λ e. omega arith) (λ e. omega arith)

-- one lot more at the next place
module _ (m : List ℕ) (n p t : ℕ) (s : Sound m) (here : get_or m count_at 0 ≡ n) (more : n < get_or m 0 0) where
  lot_facts : FitsFacts (header_in m) (length m)
  lot_facts = house_facts m s.house

  fits_lot : lot_at n + 1 < length m
  fits_lot = omega (arith, lot_facts.room)

  lot_limits : limits_in (with_lot m n p t) ≡ limits_in m
  lot_limits = grind (arith, common_steps)

  -- a row has none of the words that are written
  lot_rows : (k b : ℕ) → row_part (limits_in m) (with_lot m n p t) k b ≡ row_part (limits_in m) m k b
  lot_rows k b = grind (arith, common_steps)

  -- nor is anything in the new lot's rows yet
  none_yet : (b : ℕ) → b < get_or m 1 0 → bids_at (limits_in m) m n b ≡ []
  none_yet b h =
      let l = limits_in m in
      let within = row_within l n b more h in
      let from = first_row l n b in
      let part = length-take (row_size l) (drop (row_at l n b) m) in
      let zero_rest : (i : ℕ) → row_at l n 0 ≤ i → i < house_words l → get_or m i 0 ≡ 0 = subst (λ x. (i : ℕ) → row_at l x 0 ≤ i → i < house_words l → get_or m i 0 ≡ 0) here s.rest in
      bids_zero (row_part l m n b)
      (λ i hi. get_or-take (row_size l) (drop (row_at l n b) m) i 0 (omega arith) ∙ get_or-drop (row_at l n b) m i 0 ∙ zero_rest (row_at l n b + i) (omega arith) (omega arith))

  new_lot : lot_in (limits_in m) (with_lot m n p t) n ≡ record { pieces = p; until = t; made = nobody (get_or m 1 0) }
  new_lot = grind (arith, common_steps, lot_pieces, fits_lot, lot_until, map_same, lot_rows, nobody_is, none_yet)

  old_lot : (k : ℕ) → k < n → lot_in (limits_in m) (with_lot m n p t) k ≡ lot_in (limits_in m) m k
  old_lot k h =
      same_lot (limits_in m) m (with_lot m n p t) k (lot_between m n p t fits_lot (lot_at k) (omega arith) (omega arith)) (lot_between m n p t fits_lot (lot_at k + 1) (omega arith) (omega arith))
      (λ b hb. lot_rows k b)

  pub lot_house : (can : ℕ → Bool) → house_in (with_lot m n p t) ≡ changed (limits_of can (limits_in m)) (house_in m) (opens p t)
  lot_house can =
      let l = limits_in m in
      let v : List ℕ = with_lot m n p t in
      let new : Lot = record { pieces = p; until = t; made = nobody (get_or m 1 0) } in
      house_by v l (get_or m now_at 0) (n + 1) lot_limits (lot_below m n p t fits_lot now_at (omega arith)) (lot_count m n p t fits_lot)
      ∙ ap {B = House} (λ x. record { now = get_or m now_at 0; lots = x })
      (map-range_with_len_more (lot_in l v) 0 n n (omega arith) ∙ ap₂ (λ xs x. xs ++ x ∷ []) (map_same (lot_in l m) (lot_in l v) n old_lot) new_lot)
      ∙ ap {B = House} (λ (h : House). record { now = h.now; lots = h.lots ++ new ∷ [] }) (sym (house_by m l (get_or m now_at 0) n refl refl here))

  pub lot_sound : p < 4294967296 → t < 4294967296 → Sound (with_lot m n p t)
  lot_sound hp ht =
      let l = limits_in m in
      let v : List ℕ = with_lot m n p t in
      let few = lot_facts.good.0 in
      let lots : (i : ℕ) → lot_at n ≤ i → i < lot_at l.lots → get_or m i 0 ≡ 0 = subst (λ x. (i : ℕ) → lot_at x ≤ i → i < lot_at l.lots → get_or m i 0 ≡ 0) here s.lots in
      let rest : (i : ℕ) → row_at l n 0 ≤ i → i < house_words l → get_or m i 0 ≡ 0 = subst (λ x. (i : ℕ) → row_at l x 0 ≤ i → i < house_words l → get_or m i 0 ≡ 0) here s.rest in
      let low = lot_within l n (n + 1) 0 more in
      let row = row_before l n 0 (n + 1) 0 (omega (arith, past n (n + 1) l.bidders (omega arith), lot_facts.good.1)) in
      sound_by v (record { limits = l; now = get_or m now_at 0; count = n + 1 }) (same_header m v (get_or m now_at 0) (n + 1) lot_limits (lot_below m n p t fits_lot now_at (omega arith)) (lot_count m n p t fits_lot))
      (subst (FitsFacts (record { limits = l; now = get_or m now_at 0; count = n + 1 })) (sym (length-with_lot m n p t fits_lot)) (record { good = lot_facts.good; room = lot_facts.room; few = omega arith; early = lot_facts.early }))
      (λ i. ⊎_elim (λ e. subst (λ x. x < 4294967296) (sym (ap (λ j. get_or v j 0) e ∙ lot_count m n p t fits_lot)) (omega arith))
      (λ a. ⊎_elim (λ e. subst (λ x. x < 4294967296) (sym (ap (λ j. get_or v j 0) e ∙ lot_pieces m n p t fits_lot)) hp)
      (λ b. ⊎_elim (λ e. subst (λ x. x < 4294967296) (sym (ap (λ j. get_or v j 0) e ∙ lot_until m n p t fits_lot)) ht)
      (λ c. subst (λ x. x < 4294967296) (sym (lot_other m n p t fits_lot i b c a)) (s.words i))
      (cases_eq i (lot_at n + 1))) (cases_eq i (lot_at n))) (cases_eq i count_at))
      (λ i from to. lot_above m n p t fits_lot i (omega arith) ∙ lots i (omega arith) to)
      (λ i from to. lot_above m n p t fits_lot i (omega arith) ∙ rest i (omega arith) to)
