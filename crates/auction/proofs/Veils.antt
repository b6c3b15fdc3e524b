-- A house with a veil over one lot: of what was bid there only a part is seen, by a function of the bids, and all else is as it is. Calls are turned away as if there were no veil; and what a call
-- does is seen behind the veil as if it had been done there, or is not seen at all.
-- Assumes nothing.
use Rattle.std.proofs.Common.{◌≡◌, ℕ, zero, suc, Bool, true, false, eqb, ◌≢◌, List, [], ◌∷◌, ◌++◌, length, get_or, set, sym, refl, ap, ◌∙◌, subst}
use Rattle.auction.specs.Bids.{pick, Bids}
use Rattle.auction.specs.House.{Call, opens, bids, ticks, my_bids, result, brings, lot_is, garbled, Limits, Lot, House, the_lot, nobody, turned, changed, after, new_house}
use Rattle.auction.proofs.HouseLaws.{Like, turned_like, put}

abbrev with_made : Lot → List Bids → Lot
with_made o m = record { pieces = o.pieces; until = o.until; made = m }

-- a lot behind the veil, and the lot at one place
abbrev veil : (List Bids → List Bids) → Lot → Lot
veil seen o = with_made o (seen o.made)

pub veil-at : (List Bids → List Bids) → ℕ → List Lot → List Lot
veil-at seen k [] = []
veil-at seen zero (o ∷ os) = veil seen o ∷ os
veil-at seen (suc k) (o ∷ os) = o ∷ veil-at seen k os

abbrev pub hide : (List Bids → List Bids) → ℕ → House → House
hide seen k h = record { now = h.now; lots = veil-at seen k h.lots }

module _ (seen : List Bids → List Bids) where
  length-veil : (k : ℕ) (os : List Lot) → length (veil-at seen k os) ≡ length os
  unfolding veil-at
  length-veil k [] = refl
  length-veil zero (o ∷ os) = refl
  length-veil (suc k) (o ∷ os) = ap suc (length-veil k os)

  -- what a veil keeps of a lot, it keeps of every lot
  veil_keeps : {X : Type 0} (f : Lot → X) (k i : ℕ) (os : List Lot) (d : Lot) → ((o : Lot) → f (veil seen o) ≡ f o) → f (get_or (veil-at seen k os) i d) ≡ f (get_or os i d)
  unfolding veil-at
  veil_keeps f k i [] d e = refl
  veil_keeps f zero zero (o ∷ os) d e = e o
  veil_keeps f zero (suc i) (o ∷ os) d e = refl
  veil_keeps f (suc k) zero (o ∷ os) d e = refl
  veil_keeps f (suc k) (suc i) (o ∷ os) d e = veil_keeps f k i os d e

  veil_here : (k : ℕ) (os : List Lot) (d : Lot) → veil seen d ≡ d → get_or (veil-at seen k os) k d ≡ veil seen (get_or os k d)
  unfolding veil-at
  veil_here k [] d e = sym e
  veil_here zero (o ∷ os) d e = refl
  veil_here (suc k) (o ∷ os) d e = veil_here k os d e

  veil_other : (k i : ℕ) (os : List Lot) (d : Lot) → i ≢ k → get_or (veil-at seen k os) i d ≡ get_or os i d
  unfolding veil-at
  veil_other k i [] d n = refl
  veil_other zero zero (o ∷ os) d n = absurd (n refl)
  veil_other zero (suc i) (o ∷ os) d n = refl
  veil_other (suc k) zero (o ∷ os) d n = refl
  veil_other (suc k) (suc i) (o ∷ os) d n = veil_other k i os d (λ e. n (ap suc e))

  veil_push : (k : ℕ) (os : List Lot) (o : Lot) → veil seen o ≡ o → veil-at seen k (os ++ (o ∷ [])) ≡ veil-at seen k os ++ (o ∷ [])
  unfolding veil-at
  veil_push zero [] o e = ap (λ (x : Lot). x ∷ []) e
  veil_push (suc k) [] o e = refl
  veil_push zero (p ∷ os) o e = refl
  veil_push (suc k) (p ∷ os) o e = ap (λ (xs : List Lot). p ∷ xs) (veil_push k os o e)

  -- bids on another lot, or such as are seen behind the veil
  veil-put : (k j c : ℕ) (bs : Bids) (os : List Lot) (d : Lot) → (j ≡ k → (m : List Bids) → seen (set m c bs) ≡ set (seen m) c bs) →
      veil-at seen k (set os j (put c bs (get_or os j d))) ≡ set (veil-at seen k os) j (put c bs (get_or (veil-at seen k os) j d))
  unfolding veil-at
  veil-put k j c bs [] d through = refl
  veil-put zero zero c bs (o ∷ os) d through = ap (λ (m : List Bids). with_made o m ∷ os) (through refl o.made)
  veil-put zero (suc j) c bs (o ∷ os) d through = refl
  veil-put (suc k) zero c bs (o ∷ os) d through = refl
  veil-put (suc k) (suc j) c bs (o ∷ os) d through = ap (λ (xs : List Lot). o ∷ xs) (veil-put k j c bs os d (λ e. through (ap suc e)))

  -- bids that are not seen
  veil_hides : (k c : ℕ) (bs : Bids) (os : List Lot) (d : Lot) → ((m : List Bids) → seen (set m c bs) ≡ seen m) → veil-at seen k (set os k (put c bs (get_or os k d))) ≡ veil-at seen k os
  unfolding veil-at
  veil_hides k c bs [] d unseen = refl
  veil_hides zero c bs (o ∷ os) d unseen = ap (λ (m : List Bids). with_made o m ∷ os) (unseen o.made)
  veil_hides (suc k) c bs (o ∷ os) d unseen = ap (λ (xs : List Lot). o ∷ xs) (veil_hides k c bs os d unseen)

  pub hide_like : (k : ℕ) (h : House) → Like (hide seen k h) h
  hide_like k h = record {
    now = refl;
    count = length-veil k h.lots;
    pieces = λ i. veil_keeps (λ (o : Lot). o.pieces) k i h.lots _ (λ o. refl);
    until = λ i. veil_keeps (λ (o : Lot). o.until) k i h.lots _ (λ o. refl);
  }

  -- lots but the one behind the veil, the bids there, and what the veil keeps of them
  pub hide_other : (k i : ℕ) (h : House) → i ≢ k → the_lot (hide seen k h) i ≡ the_lot h i
  hide_other k i h n = veil_other k i h.lots _ n

  pub hide_here : (k : ℕ) (h : House) → seen [] ≡ [] → (the_lot (hide seen k h) k).made ≡ seen (the_lot h k).made
  hide_here k h none = ap (λ (o : Lot). o.made) (veil_here k h.lots _ (ap {B = Lot} (with_made (record { pieces = 0; until = 0; made = [] })) none))

  pub hide_keeps : {X : Type 0} (f : List Bids → X) (k i : ℕ) (h : House) → ((m : List Bids) → f (seen m) ≡ f m) → f (the_lot (hide seen k h) i).made ≡ f (the_lot h i).made
  hide_keeps f k i h e = veil_keeps (λ (o : Lot). f o.made) k i h.lots _ (λ o. e o.made)

  -- a new house looks the same behind the veil
  pub hide_new : (k : ℕ) → hide seen k new_house ≡ new_house
  unfolding veil-at
  hide_new k = refl

  -- a call whose bids on the lot, if it makes any, are seen
  abbrev pub Through : ℕ → Call → Type 0
  Through k c = (j b : ℕ) (bs : Bids) → c ≡ bids j b bs → j ≡ k → (m : List Bids) → seen (set m b bs) ≡ set (seen m) b bs

  module _ (l : Limits) (h : House) (k : ℕ) where
    as_house : List Lot → House
    as_house os = record { now = h.now; lots = os }

    hide-changed : (c : Call) → ((n : ℕ) → seen (nobody n) ≡ nobody n) → Through k c → hide seen k (changed l h c) ≡ changed l (hide seen k h) c
    unfolding as_house
    hide-changed (opens n t) none through =
        ap {B = House} as_house (veil_push k h.lots _ (ap {B = Lot} (with_made (record { pieces = n; until = t; made = [] })) (none l.bidders)))
    hide-changed (bids j b bs) none through = ap {B = House} as_house (veil-put k j b bs h.lots _ (through j b bs refl))
    hide-changed (ticks n) none through = refl
    hide-changed (my_bids j b) none through = refl
    hide-changed (result j b) none through = refl
    hide-changed (brings j) none through = refl
    hide-changed (lot_is j) none through = refl
    hide-changed (garbled n) none through = refl

    -- a call that is made behind the veil too
    pub hide-after : (c : Call) → ((n : ℕ) → seen (nobody n) ≡ nobody n) → Through k c → hide seen k (after l h c) ≡ after l (hide seen k h) c
    hide-after c none through =
        go (eqb (turned l h c) 0)
        ∙ ap {B = House} (λ (n : ℕ). pick (eqb n 0) (changed l (hide seen k h) c) (hide seen k h)) (sym (turned_like l (hide seen k h) h c (hide_like k h)))
      where
        go : (t : Bool) → hide seen k (pick t (changed l h c) h) ≡ pick t (changed l (hide seen k h) c) (hide seen k h)
        go true = hide-changed c none through
        go false = refl

    -- bids on the lot that are not seen
    pub hide_unseen : (j b : ℕ) (bs : Bids) → j ≡ k → ((m : List Bids) → seen (set m b bs) ≡ seen m) → hide seen k (after l h (bids j b bs)) ≡ hide seen k h
    unfolding as_house
    hide_unseen j b bs here unseen = subst P (sym here) (go (eqb (turned l h (bids k b bs)) 0))
      where
        P : ℕ → Type 0
        P i = hide seen k (after l h (bids i b bs)) ≡ hide seen k h

        go : (t : Bool) → hide seen k (pick t (changed l h (bids k b bs)) h) ≡ hide seen k h
        go true = ap {B = House} as_house (veil_hides k b bs h.lots _ unseen)
        go false = refl
