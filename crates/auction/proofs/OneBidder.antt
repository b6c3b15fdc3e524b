-- One bidder asked first, the others settled by any function of what it leaves: the most that can be had, and the bid with which it is had.
-- Assumes nothing.
use Rattle.std.proofs.Common.{◌≡◌, ℕ, zero, suc, ◌+◌, ◌<◌, ◌≤◌, Bool, true, false, ◌&&◌, eqb, ltb, ◌⊎◌, [], ◌∷◌, length, get_or, sym, refl, ap, ◌∙◌, subst, inl, inr, add-zero, zero-add, arith}
use Rattle.std.proofs.lemmas.Bool.{both_ways, and_parts, and_from, ltb-true, ltb-false, eqb-true, eq-eqb}
use Rattle.auction.specs.Bids.{pick, Some, within, less, Bid, Bids, no_bid, larger, with_some, first_good, given}
use Rattle.auction.proofs.Sets.{less-nothing, less-within, less_mono, less_comm, within_trans, within_swap}

pub larger_is : (a b : ℕ) → (a ≤ larger a b) × (b ≤ larger a b) × ((larger a b ≡ a) ⊎ (larger a b ≡ b))
larger_is a b = go (ltb a b) refl
  where
    go : (t : Bool) → ltb a b ≡ t → (a ≤ pick t b a) × (b ≤ pick t b a) × ((pick t b a ≡ a) ⊎ (pick t b a ≡ b))
    go true e = (omega (arith, ltb-true a b e), omega arith, inr refl)
    go false e = (omega arith, ltb-false a b e, inl refl)

-- a bid taken, and the others settled by `rest` with the pieces that it leaves
abbrev pub with_bid : Bid → Some → (Some → ℕ) → ℕ
with_bid b free rest = b.price + rest (less free b.on)

abbrev pub fits : Bid → Some → Bool
fits b free = within b.on free

module _ (free : Some) (rest : Some → ℕ) where
  pub some_none : (bs : Bids) → rest free ≤ with_some bs free rest
  unfolding with_some
  some_none [] = omega arith
  some_none (b ∷ bs) = omega (arith, some_none bs, larger_is (pick (fits b free) (with_bid b free rest) 0) (with_some bs free rest))

  pub with_no_bid : with_bid no_bid free rest ≡ rest free
  with_no_bid = zero-add (rest (less free [])) ∙ ap rest (less-nothing free)

  pick-fits : (b : Bid) → fits b free ≡ true → pick (fits b free) (with_bid b free rest) 0 ≡ with_bid b free rest
  pick-fits b w = ap (λ (t : Bool). pick t (with_bid b free rest) 0) w

  some_at : (bs : Bids) (j : ℕ) → fits (get_or bs j no_bid) free ≡ true → with_bid (get_or bs j no_bid) free rest ≤ with_some bs free rest
  unfolding with_some
  some_at [] j w = omega (arith, with_no_bid)
  some_at (b ∷ bs) zero w = omega (arith, pick-fits b w, larger_is (pick (fits b free) (with_bid b free rest) 0) (with_some bs free rest))
  some_at (b ∷ bs) (suc j) w = omega (arith, some_at bs j w, larger_is (pick (fits b free) (with_bid b free rest) 0) (with_some bs free rest))

  -- no bid that fits, and not none either, comes to more
  pub some_ge : (bs : Bids) (c : ℕ) → fits (given bs c) free ≡ true → with_bid (given bs c) free rest ≤ with_some bs free rest
  unfolding given
  some_ge bs zero w = omega (arith, with_no_bid, some_none bs)
  some_ge bs (suc j) w = some_at bs j w

  -- the bid at a place can be taken, and then so much is had
  abbrev pub Comes : Bids → ℕ → ℕ → Type 0
  Comes bs j most = (j < length bs) × (fits (get_or bs j no_bid) free ≡ true) × (with_bid (get_or bs j no_bid) free rest ≡ most)

  comes_later : (b : Bid) (bs : Bids) (j m n : ℕ) → m ≡ n → Comes bs j m → Comes (b ∷ bs) (suc j) n
  comes_later b bs j m n e (l, w, c) = (omega arith, w, c ∙ e)

  -- the most is had with one of the bids, or with none
  some_attained : (bs : Bids) → (with_some bs free rest ≡ rest free) ⊎ ((j : ℕ) × Comes bs j (with_some bs free rest))
  unfolding with_some
  some_attained [] = inl refl
  some_attained (b ∷ bs) = go (fits b free) refl (larger_is offer later).2 (some_attained bs)
    where
      offer : ℕ
      offer = pick (fits b free) (with_bid b free rest) 0

      later : ℕ
      later = with_some bs free rest

      Attained : Type 0
      Attained = (larger offer later ≡ rest free) ⊎ ((j : ℕ) × Comes (b ∷ bs) j (larger offer later))

      go : (t : Bool) → fits b free ≡ t → (larger offer later ≡ offer) ⊎ (larger offer later ≡ later) →
          (later ≡ rest free) ⊎ ((j : ℕ) × Comes bs j later) → Attained
      go true e (inl o) l = inr (0, (omega arith, e, sym (o ∙ pick-fits b e)))
      go false e (inl o) l =
          let none : offer ≡ 0 = ap (λ (t : Bool). pick t (with_bid b free rest) 0) e in
          inl (omega (arith, some_none bs, (larger_is offer later).1))
      go t e (inr o) (inl l) = inl (o ∙ l)
      go t e (inr o) (inr (j, c)) = inr (suc j, comes_later b bs j later (larger offer later) (sym o) c)

  -- what the first good bid is: none comes to the most, or the one at the place j does
  Good : Bids → ℕ → ℕ → ℕ → Type 0
  Good bs most i c = ((c ≡ 0) × ((j : ℕ) → Comes bs j most → ⊥)) ⊎ ((j : ℕ) × (c ≡ suc (i + j)) × (Comes bs j most))

  good_is : (bs : Bids) (most i : ℕ) → Good bs most i (first_good bs free rest most i)
  unfolding Good first_good
  good_is [] most i = inl (refl, λ j c. omega (arith, c.0))
  good_is (b ∷ bs) most i = go (good b) refl (good_is bs most (suc i))
    where
      good : Bid → Bool
      good x = fits x free && eqb (with_bid x free rest) most

      goes_on : (j : ℕ) → good b ≡ false → ((k : ℕ) → Comes bs k most → ⊥) → Comes (b ∷ bs) j most → ⊥
      goes_on zero e never (l, w, c) =
          both_ways (good b) e (and_from (fits b free) (eqb (with_bid b free rest) most) w (eq-eqb (with_bid b free rest) most c))
      goes_on (suc j) e never (l, w, c) = never j (omega arith, w, c)

      go : (t : Bool) → good b ≡ t → Good bs most (suc i) (first_good bs free rest most (suc i)) →
          Good (b ∷ bs) most i (pick t (suc i) (first_good bs free rest most (suc i)))
      go true e later =
          let p = and_parts (fits b free) (eqb (with_bid b free rest) most) e in
          inr (0, ap suc (sym (add-zero i)), (omega arith, p.0, eqb-true (with_bid b free rest) most p.1))
      go false e (inl (z, never)) = inl (z, λ j. goes_on j e never)
      go false e (inr (j, z, c)) = inr (suc j, omega arith, comes_later b bs j most most refl c)

  -- a choice of one of the bids, or of none, that fits and with which the most is had
  abbrev pub Got : Bids → ℕ → Type 0
  Got bs c = (c ≤ length bs) × (fits (given bs c) free ≡ true) × (with_bid (given bs c) free rest ≡ with_some bs free rest)

  got_none : (bs : Bids) → with_some bs free rest ≡ rest free → Got bs 0
  unfolding given within
  got_none bs e = (omega arith, refl, with_no_bid ∙ sym e)

  got_one : (bs : Bids) (j : ℕ) → Comes bs j (with_some bs free rest) → Got bs (suc j)
  unfolding given
  got_one bs j c = c

  pub some_got : (bs : Bids) → Got bs (first_good bs free rest (with_some bs free rest) 0)
  unfolding Good
  some_got bs = go (first_good bs free rest (with_some bs free rest) 0) (good_is bs (with_some bs free rest) 0) (some_attained bs)
    where
      go : (c : ℕ) → Good bs (with_some bs free rest) 0 c →
          (with_some bs free rest ≡ rest free) ⊎ ((j : ℕ) × Comes bs j (with_some bs free rest)) → Got bs c
      go c (inl (z, never)) (inl e) = subst (λ (n : ℕ). Got bs n) (sym z) (got_none bs e)
      go c (inl (z, never)) (inr (j, d)) = absurd (never j d)
      go c (inr (j, z, d)) l = subst (λ (n : ℕ). Got bs n) (sym (z ∙ ap suc (zero-add j))) (got_one bs j d)

-- more pieces, and more for what is left, never bring less
pub some_mono : (bs : Bids) (s t : Some) (f : Some → ℕ) → ((x y : Some) → within x y ≡ true → f x ≤ f y) → within s t ≡ true →
    with_some bs s f ≤ with_some bs t f
some_mono bs s t f up w = go (first_good bs s f (with_some bs s f) 0) (some_got s f bs)
  where
    go : (c : ℕ) → Got s f bs c → with_some bs s f ≤ with_some bs t f
    go c (l, v, e) =
        let b : Bid = given bs c in
        let more : with_bid b t f ≤ with_some bs t f = some_ge t f bs c (within_trans b.on s t v w) in
        let less-left : f (less s b.on) ≤ f (less t b.on) = up (less s b.on) (less t b.on) (less_mono s t b.on w) in
        omega arith

-- of two bidders either can be asked first: one way round brings at most what the other does
swap_le : (bs ds : Bids) (free : Some) (f : Some → ℕ) →
    with_some bs free (λ x. with_some ds x f) ≤ with_some ds free (λ x. with_some bs x f)
swap_le bs ds free f = go (some_got free then_ds bs)
  where
    then_ds : Some → ℕ
    then_ds x = with_some ds x f

    then_bs : Some → ℕ
    then_bs x = with_some bs x f

    first : Bid
    first = given bs (first_good bs free then_ds (with_some bs free then_ds) 0)

    left : Some
    left = less free first.on

    at : (d : ℕ) → fits first free ≡ true → Got left f ds d → with_bid first free then_ds ≤ with_some ds free then_bs
    at d v (m, w, e) =
        let second : Bid = given ds d in
        let seconds : with_bid second free then_bs ≤ with_some ds free then_bs =
        some_ge free then_bs ds d (within_trans second.on left free w (less-within free first.on)) in
        let firsts : with_bid first (less free second.on) f ≤ then_bs (less free second.on) =
        some_ge (less free second.on) f bs _ (within_swap first.on second.on free v w) in
        let same : f (less left second.on) ≡ f (less (less free second.on) first.on) = ap f (less_comm free first.on second.on) in
        omega arith

    go : Got free then_ds bs (first_good bs free then_ds (with_some bs free then_ds) 0) → with_some bs free then_ds ≤ with_some ds free then_bs
    go (l, v, e) = omega (arith, e, at (first_good ds left f (with_some ds left f) 0) v (some_got left f ds))

pub some_swap : (bs ds : Bids) (free : Some) (f : Some → ℕ) →
    with_some bs free (λ x. with_some ds x f) ≡ with_some ds free (λ x. with_some bs x f)
some_swap bs ds free f = omega (arith, swap_le bs ds free f, swap_le ds bs free f)
