-- A bidder by itself, bid by bid. Assumes nothing.
use Rattle.std.proofs.Common.{◌≡◌, ℕ, suc, ◌+◌, max, Bool, cond, true, false, ◌&&◌, eqb, List, [], ◌∷◌, map, filter, fold, Option, Some as there, sym, refl, ap, ◌∙◌, add-zero, add-one, arith}
use Rattle.std.specs.List.{position_from}
use Rattle.auction.specs.Bids.{Some, within, larger, pick, first_good, with_some}
use Rattle.auction.proofs.OneBidder.{larger_is}
use Rattle.bundles.specs.declared.Bid.{Bid}
use Rattle.bundles.specs.Offers.{meant, all_meant}
use Rattle.bundles.proofs.Picks.{pick_yes, pick_no}
use Rattle.settling.specs.Alone.{counted, highest}

fold-max : (a : ℕ) (xs : List ℕ) → fold max a xs ≡ max a (fold max 0 xs)
fold-max a [] = omega arith
fold-max a (x ∷ xs) = omega (arith, fold-max (max a x) xs, fold-max (max 0 x) xs)

-- the largest price of the bids that fit
pub largest_is : (free : Some) (bids : List Bid) → fold max 0 (map (λ (b : Bid). b.price) (filter (λ (b : Bid). within (meant b).on free) bids)) ≡ highest (all_meant bids) free
unfolding with_some
largest_is free [] = refl
largest_is free (b ∷ bids) = step (within (meant b).on free) (filter (λ (c : Bid). within (meant c).on free) bids) (highest (all_meant bids) free) (largest_is free bids)
  where
    step : (t : Bool) (rest : List Bid) (h : ℕ) → fold max 0 (map (λ (c : Bid). c.price) rest) ≡ h → fold max 0 (map (λ (c : Bid). c.price) (cond t (b ∷ rest) rest)) ≡ larger (pick t (b.price + 0) 0) h
    step true rest h e = omega (arith, fold-max (max 0 b.price) (map (λ (c : Bid). c.price) rest), e, larger_is (b.price + 0) h)
    step false rest h e = omega (arith, e, larger_is 0 h)

-- the first bid that fits at this price is the first of the good ones
pub position_is : (free : Some) (most : ℕ) (bids : List Bid) (i : ℕ) → counted (position_from (λ (b : Bid). within (meant b).on free && eqb b.price most) i bids) ≡ first_good (all_meant bids) free (λ _. 0) most i
unfolding first_good
position_is free most [] i = refl
position_is free most (b ∷ bids) i = step (within (meant b).on free) (position_from (λ (c : Bid). within (meant c).on free && eqb c.price most) (i + 1) bids) _ (position_is free most bids (i + 1) ∙ ap (first_good (all_meant bids) free (λ _. 0) most) (add-one i))
  where
    step : (t : Bool) (later : Option ℕ) (n : ℕ) → counted later ≡ n → counted (cond (t && eqb b.price most) (there i) later) ≡ pick (t && eqb (b.price + 0) most) (suc i) n
    step true later n e = at (eqb b.price most) (ap (λ (x : ℕ). eqb x most) (add-zero b.price))
      where
        at : (u : Bool) {v : Bool} → v ≡ u → counted (cond u (there i) later) ≡ pick v (suc i) n
        at true same = add-one i ∙ sym (pick_yes _ _ same)
        at false same = e ∙ sym (pick_no _ _ same)
    step false later n e = e
