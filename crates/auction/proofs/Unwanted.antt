-- Pieces that nobody wants: taking them away changes nothing. What is shown on the way is when two settings of the others are alike to a bidder.
-- Assumes nothing.
use Rattle.std.proofs.Common.{◌≡◌, ℕ, zero, suc, ◌+◌, Bool, true, false, eqb, ◌⊎◌, List, [], ◌∷◌, get_or, sym, refl, ap, ◌∙◌, inl, inr, add-zero, arith}
use Rattle.std.proofs.lemmas.Bool.{eqb-true, eq-eqb}
use Rattle.auction.specs.Bids.{pick, Some, less, Bid, Bids, no_bid, larger, with_some, best, first_good, given, choice, without, pays}
use Rattle.auction.specs.Laws.{touches, pieces_of, UnwantedPieces}
use Rattle.auction.proofs.Sets.{same_test, less-nothing, less_comm, within-less}
use Rattle.auction.proofs.OneBidder.{larger_is, with_bid, fits}

larger_plus : (fit : Bool) (x y more : ℕ) → larger (pick fit (x + more) 0) (y + more) ≡ larger (pick fit x 0) y + more
larger_plus true x y more = omega (arith, larger_is (x + more) (y + more), larger_is x y)
larger_plus false x y more = omega (arith, larger_is 0 (y + more), larger_is 0 y)

eqb_plus : (x y more : ℕ) → eqb (x + more) (y + more) ≡ eqb x y
eqb_plus x y more =
    same_test (eqb (x + more) (y + more)) (eqb x y)
    (λ e. eq-eqb x y (omega (arith, eqb-true (x + more) (y + more) e)))
    (λ e. eq-eqb (x + more) (y + more) (omega (arith, eqb-true x y e)))

-- two settings of the others, s with f and t with g, of which the first is worth so much more whatever bid is taken: the bidder's choice is the same in both
module _ (s t : Some) (f g : Some → ℕ) (more : ℕ) where
  pub record Alike (bs : Bids) : Type 0 where
    pub fit : (j : ℕ) → fits (get_or bs j no_bid) s ≡ fits (get_or bs j no_bid) t
    pub left : (j : ℕ) → f (less s (get_or bs j no_bid).on) ≡ g (less t (get_or bs j no_bid).on) + more

  later : (b : Bid) (bs : Bids) → Alike (b ∷ bs) → Alike bs
  later b bs a = record { fit = λ j. a.fit (suc j); left = λ j. a.left (suc j) }

  with_bid_alike : (b : Bid) (bs : Bids) → Alike (b ∷ bs) → with_bid b s f ≡ with_bid b t g + more
  with_bid_alike b bs a = omega (arith, a.left 0)

  pub some_alike : (bs : Bids) → Alike bs → with_some bs s f ≡ with_some bs t g + more
  unfolding with_some
  some_alike [] a = ap f (sym (less-nothing s)) ∙ a.left 0 ∙ ap (λ (x : Some). g x + more) (less-nothing t)
  some_alike (b ∷ bs) a =
      rw (a.fit 0, with_bid_alike b bs a, some_alike bs (later b bs a)) (larger_plus (fits b t) (with_bid b t g) (with_some bs t g) more)

  pub good_alike : (bs : Bids) (most i : ℕ) → Alike bs → first_good bs s f (most + more) i ≡ first_good bs t g most i
  unfolding first_good
  good_alike [] most i a = refl
  good_alike (b ∷ bs) most i a =
      rw (a.fit 0, with_bid_alike b bs a, eqb_plus (with_bid b t g) most more, good_alike bs most (suc i) (later b bs a)) refl

-- the pieces of a set that no bid names
unfoldable pub Unwanted : Some → List Bids → Type 0
Unwanted a bss = (i c : ℕ) → touches (pieces_of bss i c) a ≡ false

module _ (bs : Bids) (bss : List Bids) (free a : Some) (u : Unwanted a (bs ∷ bss)) where
  unwanted_alike : ((f : Some) → best bss (less f a) ≡ best bss f) → Alike (less free a) free (best bss) (best bss) 0 bs
  unfolding Unwanted
  unwanted_alike same = record {
    fit = λ j. within-less (get_or bs j no_bid).on a free (u 0 j);
    left = λ j. ap (best bss) (less_comm free a (get_or bs j no_bid).on) ∙ same (less free (get_or bs j no_bid).on) ∙ sym (add-zero (best bss (less free (get_or bs j no_bid).on)));
  }

later_unwanted : (a : Some) (bs : Bids) (bss : List Bids) → Unwanted a (bs ∷ bss) → Unwanted a bss
unfolding Unwanted
later_unwanted a bs bss u = λ i. u (suc i)

pub best_unwanted : (bss : List Bids) (free a : Some) → Unwanted a bss → best bss (less free a) ≡ best bss free
unfolding best
best_unwanted [] free a u = refl
best_unwanted (bs ∷ bss) free a u =
    some_alike (less free a) free (best bss) (best bss) 0 bs
    (unwanted_alike bs bss free a u (λ f. best_unwanted bss f a (later_unwanted a bs bss u)))
    ∙ add-zero (with_some bs free (best bss))

head_unwanted : (bs : Bids) (bss : List Bids) (free a : Some) → Unwanted a (bs ∷ bss) →
    first_good bs (less free a) (best bss) (best (bs ∷ bss) (less free a)) 0 ≡ first_good bs free (best bss) (best (bs ∷ bss) free) 0
head_unwanted bs bss free a u =
    ap (λ (m : ℕ). first_good bs (less free a) (best bss) m 0) (best_unwanted (bs ∷ bss) free a u ∙ sym (add-zero (best (bs ∷ bss) free)))
    ∙ good_alike (less free a) free (best bss) (best bss) 0 bs (best (bs ∷ bss) free) 0
    (unwanted_alike bs bss free a u (λ f. best_unwanted bss f a (later_unwanted a bs bss u)))

pub choice_unwanted : (bss : List Bids) (free a : Some) → Unwanted a bss → choice bss (less free a) ≡ choice bss free
unfolding choice
choice_unwanted [] free a u = refl
choice_unwanted (bs ∷ bss) free a u =
    let c : ℕ = first_good bs free (best bss) (best (bs ∷ bss) free) 0 in
    ap (λ (d : ℕ). d ∷ choice bss (less (less free a) (given bs d).on)) (head_unwanted bs bss free a u)
    ∙ ap (λ (s : Some). c ∷ choice bss s) (less_comm free a (given bs c).on)
    ∙ ap (λ (cs : List ℕ). c ∷ cs) (choice_unwanted bss (less free (given bs c).on) a (later_unwanted a bs bss u))

-- bids of which some bidders' are left out
unfoldable pub Fewer : List Bids → List Bids → Type 0
Fewer css bss = (j : ℕ) → (get_or css j [] ≡ get_or bss j []) ⊎ (get_or css j [] ≡ [])

without_at : (bss : List Bids) (i j : ℕ) → (get_or (without bss i) j [] ≡ get_or bss j []) ⊎ (get_or (without bss i) j [] ≡ [])
unfolding without
without_at [] i j = inl refl
without_at (bs ∷ bss) zero zero = inr refl
without_at (bs ∷ bss) zero (suc j) = inl refl
without_at (bs ∷ bss) (suc i) zero = inl refl
without_at (bs ∷ bss) (suc i) (suc j) = without_at bss i j

pub fewer_without : (bss : List Bids) (i : ℕ) → Fewer (without bss i) bss
unfolding Fewer
fewer_without = without_at

unwanted_fewer : (bss css : List Bids) (a : Some) → Fewer css bss → Unwanted a bss → Unwanted a css
unfolding Fewer Unwanted touches
unwanted_fewer bss css a fewer u = λ j c. go j c (fewer j)
  where
    go : (j c : ℕ) → (get_or css j [] ≡ get_or bss j []) ⊎ (get_or css j [] ≡ []) → touches (pieces_of css j c) a ≡ false
    go j c (inl e) = ap (λ (bs : Bids). touches (get_or bs c no_bid).on a) e ∙ u j c
    go j c (inr e) = ap (λ (bs : Bids). touches (get_or bs c no_bid).on a) e

pub pays_unwanted : (bss : List Bids) (free a : Some) → Unwanted a bss → (i : ℕ) → pays bss (less free a) i ≡ pays bss free i
pays_unwanted bss free a u i = cc (best_unwanted bss free a u, choice_unwanted bss free a u, best_unwanted (without bss i) free a (unwanted_fewer bss (without bss i) a (fewer_without bss i) u))

pub unwanted_pieces : UnwantedPieces
unfolding UnwantedPieces Unwanted
unwanted_pieces = λ bss free a u. (best_unwanted bss free a u, choice_unwanted bss free a u, pays_unwanted bss free a u)
