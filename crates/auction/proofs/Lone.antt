-- One bidder where all others bid nothing.
-- Assumes nothing.
use Rattle.std.proofs.Common.{◌≡◌, ℕ, zero, suc, ◌≢◌, List, [], ◌∷◌, get_or, refl, ap, ◌∙◌, arith}
use mathlib.Core.Path.{fun_ext}
use Rattle.auction.specs.Bids.{Some, less, Bids, with_some, best, first_good, given, choice, without, pays}
use Rattle.auction.specs.Faster.{LoneBidder}
use Rattle.auction.proofs.Sets.{less-nothing}
use Rattle.auction.proofs.Best.{best_apart, best-nothing, given-none}
use Rattle.auction.proofs.Groups.{first_of}

abbrev Lone : List Bids → ℕ → Type 0
Lone bss i = (j : ℕ) → j ≢ i → get_or bss j [] ≡ []

-- without the one bidder nobody bids
others-nothing : (bss : List Bids) (i : ℕ) → Lone bss i → (j : ℕ) → get_or (without bss i) j [] ≡ []
unfolding without
others-nothing [] i h j = refl
others-nothing (bs ∷ bss) zero h zero = refl
others-nothing (bs ∷ bss) zero h (suc j) = h (suc j) (λ e. omega arith)
others-nothing (bs ∷ bss) (suc i) h zero = h zero (λ e. omega arith)
others-nothing (bs ∷ bss) (suc i) h (suc j) = others-nothing bss i (λ k n. h (suc k) (λ e. n (omega arith))) j

abbrev nothing : Some → ℕ
nothing free = 0

pub best_lone : (bss : List Bids) (i : ℕ) (free : Some) → Lone bss i → best bss free ≡ with_some (get_or bss i []) free nothing
best_lone bss i free h =
    best_apart bss i free ∙ ap (with_some (get_or bss i []) free) (fun_ext (λ x. best-nothing (without bss i) x (others-nothing bss i h)))

pub choice_lone : (bss : List Bids) (i : ℕ) (free : Some) → Lone bss i → get_or (choice bss free) i 0 ≡ first_of (get_or bss i []) free nothing
unfolding choice best first_good
choice_lone [] i free h = refl
choice_lone (bs ∷ bss) zero free h =
    ap (first_of bs free) (fun_ext (λ x. best-nothing bss x (λ j. h (suc j) (λ e. omega arith))))
choice_lone (bs ∷ bss) (suc i) free h =
    let c : ℕ = first_of bs free (best bss) in
    ap (λ (ds : Bids). get_or (choice bss (less free (given ds c).on)) i 0) (h 0 (λ e. omega arith))
    ∙ ap (λ (s : Some). get_or (choice bss s) i 0) (rw (given-none c) (less-nothing free))
    ∙ choice_lone bss i free (λ k n. h (suc k) (λ e. n (omega arith)))

pub pays_lone : (bss : List Bids) (i : ℕ) (free : Some) → Lone bss i → pays bss free i ≡ 0
pays_lone bss i free h = omega (arith, best-nothing (without bss i) free (others-nothing bss i h))

pub lone_bidder : LoneBidder
unfolding LoneBidder
lone_bidder = λ bss i free h. (best_lone bss i free h, choice_lone bss i free h, pays_lone bss i free h)
