-- What a lot comes to and brings, bidder by bidder. Assumes nothing.
use Rattle.std.proofs.Common.{◌≡◌, ℕ, zero, suc, ◌+◌, ◌<◌, ◌≤◌, List, [], ◌∷◌, length, get_or, refl, ap, ◌∙◌, ap₂, add_comm, arith}
use Rattle.std.proofs.lemmas.List.Sums.{sum_by-cons}
use Rattle.std.specs.List.{sum_by}
use Rattle.auction.specs.Bids.{Some, Bids, best, choice, given, pays}
use Rattle.auction.specs.House.{paid_by}
use Rattle.auction.specs.Laws.{summed}
use Rattle.auction.specs.Promise.{BestOfAll, sum_of}
use Rattle.auction.proofs.Choice.{best_of_all}
use Rattle.auction.proofs.Payments.{pays_below}
use Rattle.solver.specs.Choosing.{price_of as taken_for}
use Rattle.solver.specs.Paying.{nothing_taken}
use Rattle.solver.specs.Sharing.{Shared}
use Rattle.solver.specs.declared.outcome.Share.{Share}
use Rattle.settling.proofs.Aparts.{share_of}

summed_same : (n : ℕ) (f g : ℕ → ℕ) → ((i : ℕ) → i < n → f i ≡ g i) → summed n f ≡ summed n g
unfolding summed
summed_same zero f g same = refl
summed_same (suc n) f g same = ap₂ (λ (x y : ℕ). x + y) (summed_same n f g (λ i h. same i (omega arith))) (same n (omega arith))

summed_less : (n : ℕ) (f g : ℕ → ℕ) → ((i : ℕ) → i < n → f i ≤ g i) → summed n f ≤ summed n g
unfolding summed
summed_less zero f g less = omega arith
summed_less (suc n) f g less = omega (arith, summed_less n f g (λ i h. less i (omega arith)), less n (omega arith))

-- from the first on
summed_first : (n : ℕ) (f : ℕ → ℕ) → summed (suc n) f ≡ f 0 + summed n (λ i. f (suc i))
unfolding summed
summed_first zero f = omega arith
summed_first (suc n) f = omega (arith, summed_first n f)

-- shares added up, where there is nothing behind the last bidder
sum_is : (f : Share → ℕ) (ss : List Share) (n : ℕ) → f nothing_taken ≡ 0 → n ≤ length ss → ((i : ℕ) → n ≤ i → share_of ss i ≡ nothing_taken) → sum_by f ss ≡ summed n (λ i. f (share_of ss i))
unfolding summed
sum_is f [] zero e few none = refl
sum_is f [] (suc n) e few none = absurd (omega arith)
sum_is f (s ∷ ss) zero e few none = omega (arith, sum_by-cons f s ss, ap f (none 0 (omega arith)), e, sum_is f ss zero e (omega arith) (λ i h. none (suc i) (omega arith)))
sum_is f (s ∷ ss) (suc n) e few none = omega (arith, sum_by-cons f s ss, summed_first n (λ i. f (share_of (s ∷ ss) i)), sum_is f ss n e (omega arith) (λ i h. none (suc i) (omega arith)))

-- the prices of what is taken
abbrev price_of : List Bids → List ℕ → ℕ → ℕ
price_of bss cs i = (given (get_or bss i []) (get_or cs i 0)).price

summed_prices : (bss : List Bids) (free : Some) → summed (length bss) (price_of bss (choice bss free)) ≡ sum_of bss (choice bss free)
unfolding summed sum_of choice
summed_prices [] free = refl
summed_prices (bs ∷ bss) free =
    summed_first (length bss) (price_of (bs ∷ bss) (choice (bs ∷ bss) free)) ∙ ap (λ (x : ℕ). price_of (bs ∷ bss) (choice (bs ∷ bss) free) 0 + x) (summed_prices bss _)

module _ (bss : List Bids) (free : Some) (ss : List Share) (few : length bss ≤ 32) (z : Shared bss free ss) where
  -- come to the most
  pub comes_to_is : sum_by (λ (s : Share). taken_for s.taken) ss ≡ best bss free
  unfolding BestOfAll
  comes_to_is =
      sum_is (λ (s : Share). taken_for s.taken) ss (length bss) refl (omega (arith, z.long)) z.none
      ∙ summed_same (length bss) _ (price_of bss (choice bss free)) (λ i h. (z.each i h).taken.price) ∙ summed_prices bss free ∙ (best_of_all bss free).1

  summed_paid : (n : ℕ) → n ≤ length bss → summed n (λ i. (share_of ss i).paid) ≡ paid_by n bss free
  unfolding summed paid_by
  summed_paid zero under = refl
  summed_paid (suc n) under = ap₂ (λ (x y : ℕ). x + y) (summed_paid n (omega arith)) (z.each n (omega arith)).paid ∙ add_comm (paid_by n bss free) (pays bss free n)

  pub brings_is : sum_by (λ (s : Share). s.paid) ss ≡ paid_by (length bss) bss free
  brings_is = sum_is (λ (s : Share). s.paid) ss (length bss) refl (omega (arith, z.long)) z.none ∙ summed_paid (length bss) (omega arith)

  -- nobody pays more than it bid
  pub brings_no_more : sum_by (λ (s : Share). s.paid) ss ≤ sum_by (λ (s : Share). taken_for s.taken) ss
  brings_no_more =
      omega (
        arith,
        sum_is (λ (s : Share). s.paid) ss (length bss) refl (omega (arith, z.long)) z.none,
        sum_is (λ (s : Share). taken_for s.taken) ss (length bss) refl (omega (arith, z.long)) z.none,
        summed_less (length bss) (λ i. (share_of ss i).paid) (λ i. taken_for (share_of ss i).taken) (λ i h. omega (arith, (z.each i h).paid, (z.each i h).taken.price, pays_below bss free i)),
      )
