-- The first bid with which the most is still had, by the sums of a table. Assumes nothing.
use Rattle.std.proofs.Common.{◌≡◌, ℕ, zero, suc, ◌+◌, ◌-◌, ◌^◌, ◌<◌, Bool, true, false, ◌&&◌, eqb, List, Option, None, Some as there, [], ◌∷◌, length, refl, sym, ap, ◌∙◌, ap₂, arith}
use lib.Bits.{bit_and, and_comm}
use Rattle.std.specs.List.{AllWithin, HoldsAt}
use Rattle.std.specs.Option.{MatchOption}
use Rattle.std.proofs.lemmas.Bool.{eq-eqb, ne_eqb}
use Rattle.std.proofs.lemmas.List.{length-map}
use Rattle.auction.specs.Bids.{Some, within, less, first_good}
use Rattle.bundles.specs.declared.Bid.{Bid}
use Rattle.bundles.specs.Masks.{bits}
use Rattle.bundles.specs.Offers.{meant, all_meant}
use Rattle.bundles.proofs.Picks.{pick_yes, pick_no}
use Rattle.bundles.proofs.Sets.{within-bits}
use Rattle.solver.specs.Tables.{sum_in, Holds}
use Rattle.solver.specs.Choosing.{good, IsFirst}
use Rattle.solver.proofs.Offers.{left_over}

-- what a slice of bids has past its end
abbrev pub nothing : Bid
nothing = record { on = record { mask = 0 }; price = 0 }

-- one bid, by its mask and its price
module _ (t : List ℕ) (n : ℕ) (b : Bid) (s most on : ℕ) (has : Some → ℕ) (same : on ≡ b.on.mask) (small : on < 65536) (h : s < 2 ^ n) (holds : Holds t n has) where
  test : eqb (bit_and on s) on ≡ within (bits 16 b.on.mask) (bits n s)
  test = within-bits 16 n on s small h ∙ ap (λ (m : ℕ). within (bits 16 m) (bits n s)) same

  pub good_fits : (price sum : ℕ) → bit_and s on ≡ on → price ≡ b.price → sum ≡ sum_in t (s - on) → eqb (price + sum) most ≡ good (meant b) (bits n s) has most
  good_fits price sum fits bid e =
      let held : bit_and on s ≡ on = and_comm on s ∙ fits in
      let rest = e ∙ left_over t n on s has small h held holds ∙ ap (λ (m : ℕ). has (less (bits n s) (bits 16 m))) same in
      ap₂ (λ (p x : ℕ). eqb (p + x) most) bid rest ∙ ap (λ (a : Bool). a && eqb (b.price + has (less (bits n s) (bits 16 b.on.mask))) most) (sym (eq-eqb (bit_and on s) on held) ∙ test)

  pub good_misses : (bit_and s on ≡ on → ⊥) → eqb (bit_and s on) on ≡ good (meant b) (bits n s) has most
  good_misses misses =
      let away : (bit_and on s ≡ on → ⊥) = λ e. misses (and_comm s on ∙ e) in
      ne_eqb (bit_and s on) on misses ∙ ap (λ (a : Bool). a && eqb (b.price + has (less (bits n s) (bits 16 b.on.mask))) most) (sym (ne_eqb (bit_and on s) on away) ∙ test)

-- what is found of a bid by the sums of a table, whatever it holds
abbrev pub Found : List ℕ → ℕ → ℕ → Bool → Bid → Type 0
Found t s most found b = (n : ℕ) (has : Some → ℕ) → s < 2 ^ n → Holds t n has → found ≡ good (meant b) (bits n s) has most

-- the first that is found good is the meaning's
module _ (t : List ℕ) (n s most : ℕ) (has : Some → ℕ) (h : s < 2 ^ n) (holds : Holds t n has) where
  pub none_good : (bids : List Bid) (k : ℕ) → AllWithin (Found t s most false) bids 0 (length bids) → 0 ≡ first_good (all_meant bids) (bits n s) has most k
  unfolding first_good
  none_good [] k misses = refl
  none_good (b ∷ bids) k misses =
      none_good bids (suc k) (λ j d low high. misses (suc j) d (omega arith) (omega arith)) ∙ sym (pick_no (suc k) _ (sym (misses 0 b (omega arith) (omega arith) n has h holds)))

  pub first_is : (bids : List Bid) (i k : ℕ) → i < length bids → HoldsAt (Found t s most true) bids i → AllWithin (Found t s most false) bids 0 i → i + 1 + k ≡ first_good (all_meant bids) (bits n s) has most k
  unfolding first_good
  first_is [] i k lt fits misses = absurd (omega arith)
  first_is (b ∷ bids) zero k lt fits misses = let next : 0 + 1 + k ≡ suc k = omega arith in next ∙ sym (pick_yes (suc k) _ (sym (fits b n has h holds)))
  first_is (b ∷ bids) (suc i) k lt fits misses =
      let next : suc i + 1 + k ≡ i + 1 + suc k = omega arith in
      next
      ∙ first_is bids i (suc k) (omega arith) fits (λ j d low high. misses (suc j) d (omega arith) (omega arith))
      ∙ sym (pick_no (suc k) _ (sym (misses 0 b (omega arith) (omega arith) n has h holds)))

-- what is found at a place
pub first_there : (t : List ℕ) (n s most : ℕ) (has : Some → ℕ) (bids : List Bid) (r : Option ℕ) → s < 2 ^ n → Holds t n has →
    MatchOption r (AllWithin (Found t s most false) bids 0 (length bids)) (λ i. (i < length bids) × HoldsAt (Found t s most true) bids i × AllWithin (Found t s most false) bids 0 i) → IsFirst r (all_meant bids) (bits n s) has most
first_there t n s most has bids None h holds misses = none_good t n s most has h holds bids 0 misses
first_there t n s most has bids (there i) h holds found =
    (omega (arith, length-map bids meant, found.0), omega (arith, first_is t n s most has h holds bids i 0 found.0 found.1 found.2))
