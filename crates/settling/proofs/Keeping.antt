-- Which bids are kept, one more at a time. Assumes nothing.
use Rattle.std.proofs.Common.{append_assoc, ◌≡◌, ℕ, zero, suc, ◌+◌, ◌<◌, ◌≤◌, true, ◌⊎◌, List, [], ◌∷◌, ◌++◌, length, get_or, sym, refl, ap, ◌∙◌, subst, inl, inr, arith}
use Rattle.std.proofs.lemmas.List.{get_or_append_left, get_or_past, get_or_push, length-append, map-append}
use Rattle.std.proofs.lemmas.Bool.{cases_lt, or_cases}
use Rattle.auction.specs.Bids.{Bid, Bids, no_bid}
use Rattle.auction.specs.Faster.{Kept, covers}
use Rattle.auction.proofs.Kept.{covers_itself, covers_trans}
use Rattle.bundles.specs.Offers.{meant, all_meant}
use Rattle.bundles.specs.declared.Bid.{Bid as BidValue}
use Rattle.settling.specs.Covers.{covered}

-- some bid covers it
covered_by : (b : Bid) (cs : Bids) → covered b cs ≡ true → (j : ℕ) × (covers (get_or cs j no_bid) b ≡ true)
covered_by b [] e = cc
covered_by b (c ∷ cs) e = go (covered_by b cs) (or_cases (covers c b) (covered b cs) e)
  where
    go : (covered b cs ≡ true → (j : ℕ) × (covers (get_or cs j no_bid) b ≡ true)) → (covers c b ≡ true) ⊎ (covered b cs ≡ true) → (j : ℕ) × (covers (get_or (c ∷ cs) j no_bid) b ≡ true)
    go rest (inl this) = (0, this)
    go rest (inr later) = let found = rest later in (suc found.0, found.1)

module _ (ks bs : Bids) (k : Kept ks bs) (b : Bid) where
  -- one that is covered
  pub kept_skip : covered b ks ≡ true → Kept ks (b ∷ bs)
  kept_skip e = record { among = λ j h. let there = k.among j h in (suc there.0, there.1); covered = at }
    where
      at : (i : ℕ) → i < length (b ∷ bs) → (j : ℕ) × (covers (get_or ks j no_bid) (get_or (b ∷ bs) i no_bid) ≡ true)
      at zero h = covered_by b ks e
      at (suc i) h = k.covered i (omega arith)

  -- one that is not
  pub kept_push : Kept (ks ++ b ∷ []) (b ∷ bs)
  kept_push = record { among = λ j h. among j (cases_lt j (length ks)) h; covered = at }
    where
      among : (j : ℕ) → (j < length ks) ⊎ (length ks ≤ j) → j < length (ks ++ b ∷ []) → (i : ℕ) × (get_or (b ∷ bs) i no_bid ≡ get_or (ks ++ b ∷ []) j no_bid)
      among j (inl lt) h = let there = k.among j lt in (suc there.0, there.1 ∙ sym (get_or_append_left ks (b ∷ []) no_bid j lt))
      among j (inr le) h = (0, sym (get_or_push ks b no_bid j (omega (arith, length-append ks (b ∷ [])))))

      front : (j : ℕ) (c : Bid) → covers (get_or ks j no_bid) c ≡ true → (j < length ks) ⊎ (length ks ≤ j) → (i : ℕ) × (covers (get_or (ks ++ b ∷ []) i no_bid) c ≡ true)
      front j c e (inl lt) = (j, ap (λ (x : Bid). covers x c) (get_or_append_left ks (b ∷ []) no_bid j lt) ∙ e)
      front j c e (inr le) = (length ks + 1, ap (λ (x : Bid). covers x c) (get_or_past (ks ++ b ∷ []) (length ks + 1) no_bid (omega (arith, length-append ks (b ∷ []))) ∙ sym (get_or_past ks j no_bid le)) ∙ e)

      at : (i : ℕ) → i < length (b ∷ bs) → (j : ℕ) × (covers (get_or (ks ++ b ∷ []) j no_bid) (get_or (b ∷ bs) i no_bid) ≡ true)
      at zero h = (length ks, ap (λ (x : Bid). covers x b) (get_or_push ks b no_bid (length ks) refl) ∙ covers_itself b)
      at (suc i) h = let there = k.covered i (omega arith) in front there.0 (get_or bs i no_bid) there.1 (cases_lt there.0 (length ks))

-- kept of what is kept
pub kept_trans : (ks ms bs : Bids) → Kept ks ms → Kept ms bs → Kept ks bs
kept_trans ks ms bs k m = record { among = λ j h. among (k.among j h).0 j (k.among j h).1 (cases_lt (k.among j h).0 (length ms)); covered = λ i h. at i (m.covered i h).0 (m.covered i h).1 (cases_lt (m.covered i h).0 (length ms)) }
  where
    among : (i j : ℕ) → get_or ms i no_bid ≡ get_or ks j no_bid → (i < length ms) ⊎ (length ms ≤ i) → (a : ℕ) × (get_or bs a no_bid ≡ get_or ks j no_bid)
    among i j e (inl lt) = let there = m.among i lt in (there.0, there.1 ∙ e)
    among i j e (inr le) = (length bs, get_or_past bs (length bs) no_bid (omega arith) ∙ sym (get_or_past ms i no_bid le) ∙ e)

    at : (i j : ℕ) → covers (get_or ms j no_bid) (get_or bs i no_bid) ≡ true → (j < length ms) ⊎ (length ms ≤ j) → (a : ℕ) × (covers (get_or ks a no_bid) (get_or bs i no_bid) ≡ true)
    at i j e (inl lt) = let there = k.covered j lt in (there.0, covers_trans (get_or ks there.0 no_bid) (get_or ms j no_bid) (get_or bs i no_bid) there.1 e)
    at i j e (inr le) = (length ks, ap (λ (x : Bid). covers x (get_or bs i no_bid)) (get_or_past ks (length ks) no_bid (omega arith) ∙ sym (get_or_past ms j no_bid le)) ∙ e)

-- gone through from the last bid to the first: of those behind the ones that are still to come, these are left
pub record LeftOf (bids rest left : List BidValue) : Type 0 where
  pub behind : List BidValue
  pub all : rest ++ behind ≡ bids
  pub kept : Kept (all_meant left) (all_meant behind)
  pub few : length left ≤ length behind

module _ (bids rest front left : List BidValue) (b : BidValue) (e : rest ≡ front ++ b ∷ []) (l : LeftOf bids rest left) where
  one_more : front ++ b ∷ l.behind ≡ bids
  one_more = sym (append_assoc front (b ∷ []) l.behind) ∙ ap (λ (xs : List BidValue). xs ++ l.behind) (sym e) ∙ l.all

  pub left_out : true ≡ covered (meant b) (all_meant left) → LeftOf bids front left
  left_out over = record { behind = b ∷ l.behind; all = one_more; kept = kept_skip (all_meant left) (all_meant l.behind) l.kept (meant b) (sym over); few = omega (arith, l.few) }

  pub left_in : (more : List BidValue) → more ≡ left ++ b ∷ [] → LeftOf bids front more
  left_in more pushed =
      let P : Bids → Type 0 = λ ks. Kept ks (meant b ∷ all_meant l.behind) in
      record {
        behind = b ∷ l.behind;
        all = one_more;
        kept = subst P (sym (ap all_meant pushed ∙ map-append meant left (b ∷ []))) (kept_push (all_meant left) (all_meant l.behind) l.kept (meant b));
        few = omega (arith, l.few, ap length pushed, length-append left (b ∷ []));
      }

  pub left_short : length bids ≤ 16 → length left < 16
  left_short few = omega (arith, l.few, ap length one_more, length-append front (b ∷ l.behind))
