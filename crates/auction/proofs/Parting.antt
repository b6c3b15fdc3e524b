-- Any one bidder may be asked first; and the best of two groups of bidders, over the ways to part the free pieces between them.
-- Assumes nothing.
use Rattle.std.proofs.Common.{◌≡◌, ℕ, ◌+◌, ◌≤◌, true, List, [], ◌∷◌, ◌++◌, refl, ap, arith}
use Rattle.auction.specs.Bids.{Some, within, less, Bid, Bids, with_some, best, first_good, given}
use Rattle.auction.specs.Laws.{AnyFirst, TwoGroups}
use Rattle.auction.proofs.Sets.{within_trans, within_swap, less-within, less_mono, less_comm, less-nothing, less-less, less_back, within_back}
use Rattle.auction.proofs.OneBidder.{fits, some_ge, some_got, Got}
use Rattle.auction.proofs.Best.{best_mono, best_apart}

pub any_first : AnyFirst
unfolding AnyFirst
any_first = best_apart

-- no way to part the pieces comes to more
parted_below : (bss css : List Bids) (free s : Some) → within s free ≡ true → best bss s + best css (less free s) ≤ best (bss ++ css) free
unfolding best
parted_below [] css free s w = omega (arith, best_mono css (less free s) free (less-within free s))
parted_below (bs ∷ bss) css free s w = go (first_good bs s (best bss) (with_some bs s (best bss)) 0) (some_got s (best bss) bs) (parted_below bss css)
  where
    go : (c : ℕ) → Got s (best bss) bs c →
        ((f t : Some) → within t f ≡ true → best bss t + best css (less f t) ≤ best (bss ++ css) f) →
        with_some bs s (best bss) + best css (less free s) ≤ with_some bs free (best (bss ++ css))
    go c (l, v, e) later =
        let b : Bid = given bs c in
        let rest : best bss (less s b.on) + best css (less (less free b.on) (less s b.on)) ≤ best (bss ++ css) (less free b.on) =
        later (less free b.on) (less s b.on) (less_mono s free b.on w) in
        let same : best css (less (less free b.on) (less s b.on)) ≡ best css (less free s) = ap (best css) (less-less free b.on s v) in
        omega (arith, some_ge free (best (bss ++ css)) bs c (within_trans b.on s free v w))

-- there is a part of the pieces for the first group with which the two come to the best of both
abbrev Parted : List Bids → List Bids → Some → Type 0
Parted bss css free = (s : Some) × (within s free ≡ true) × (best bss s + best css (less free s) ≡ best (bss ++ css) free)

-- the first bidder takes its best bid, and the others of its group keep their part of what it leaves: together, all that the second group does not get
parted_got : (bss css : List Bids) (free : Some) → Parted bss css free
unfolding best within
parted_got [] css free = ([], refl, omega (arith, ap (best css) (less-nothing free)))
parted_got (bs ∷ bss) css free = go (first_good bs free both (with_some bs free both) 0) (some_got free both bs) (parted_got bss css)
  where
    both : Some → ℕ
    both = best (bss ++ css)

    go : (c : ℕ) → Got free both bs c → ((f : Some) → Parted bss css f) →
        (s : Some) × (within s free ≡ true) × (with_some bs s (best bss) + best css (less free s) ≡ with_some bs free both)
    go c (l, v, e) later =
        let b : Bid = given bs c in
        let left : Some = less free b.on in
        let (t, in_left, comes) = later left in
        let theirs : Some = less left t in
        let s : Some = less free theirs in
        let back : best css (less free s) ≡ best css theirs = ap (best css) (less_back free b.on t) in
        let b-in : fits b s ≡ true = within_swap b.on theirs free v (less-within left t) in
        let others : best bss t ≤ best bss (less left theirs) = best_mono bss t (less left theirs) (within_back t left in_left) in
        let same : best bss (less s b.on) ≡ best bss (less left theirs) = ap (best bss) (less_comm free theirs b.on) in
        let below : with_some bs s (best bss) + best css (less free s) ≤ with_some bs free both = parted_below (bs ∷ bss) css free s (less-within free theirs) in
        (s, less-within free theirs, omega (arith, some_ge s (best bss) bs c b-in))

pub two_groups : TwoGroups
unfolding TwoGroups
two_groups = λ bss css free. (parted_below bss css free, parted_got bss css free)
