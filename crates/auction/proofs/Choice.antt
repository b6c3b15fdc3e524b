-- What is given away: the choice fits, comes to the best, and no other way that fits comes to more.
-- Assumes nothing.
use Rattle.std.proofs.Common.{◌≡◌, ℕ, zero, suc, ◌≤◌, true, ◌&&◌, leb, List, [], ◌∷◌, length, get_or, refl, arith}
use Rattle.std.proofs.lemmas.Bool.{and_parts, and_from, le-leb}
use Rattle.auction.specs.Bids.{Some, less, Bids, best, first_good, given, choice}
use Rattle.auction.specs.Promise.{fits_all, sum_of, BestOfAll}
use Rattle.auction.proofs.OneBidder.{fits, some_ge, some_got}

pub choice-fits : (bss : List Bids) (free : Some) → fits_all bss free (choice bss free) ≡ true
unfolding fits_all choice best
choice-fits [] free = refl
choice-fits (bs ∷ bss) free =
    let c : ℕ = first_good bs free (best bss) (best (bs ∷ bss) free) 0 in
    let got = some_got free (best bss) bs in
    let here : (leb c (length bs) && fits (given bs c) free) ≡ true = and_from (leb c (length bs)) (fits (given bs c) free) (le-leb c (length bs) got.0) got.1 in
    and_from (leb c (length bs) && fits (given bs c) free) (fits_all bss (less free (given bs c).on) (choice bss (less free (given bs c).on))) here
    (choice-fits bss (less free (given bs c).on))

pub choice_comes : (bss : List Bids) (free : Some) → sum_of bss (choice bss free) ≡ best bss free
unfolding sum_of choice best
choice_comes [] free = refl
choice_comes (bs ∷ bss) free =
    let c : ℕ = first_good bs free (best bss) (best (bs ∷ bss) free) 0 in
    omega (arith, (some_got free (best bss) bs).2, choice_comes bss (less free (given bs c).on))

-- of a way that fits the first bid does, and the others do in what it leaves
pub fits_parts : (bs : Bids) (bss : List Bids) (free : Some) (c : ℕ) (cs : List ℕ) → fits_all (bs ∷ bss) free (c ∷ cs) ≡ true →
    (fits (given bs c) free ≡ true) × (fits_all bss (less free (given bs c).on) cs ≡ true)
unfolding fits_all
fits_parts bs bss free c cs f =
    let parts = and_parts (leb c (length bs) && fits (given bs c) free) (fits_all bss (less free (given bs c).on) cs) f in
    ((and_parts (leb c (length bs)) (fits (given bs c) free) parts.0).1, parts.1)

pub no_way_more : (bss : List Bids) (free : Some) (cs : List ℕ) → fits_all bss free cs ≡ true → sum_of bss cs ≤ best bss free
unfolding sum_of best
no_way_more [] free cs f = omega arith
no_way_more (bs ∷ bss) free [] f = omega arith
no_way_more (bs ∷ bss) free (c ∷ cs) f =
    let parts = fits_parts bs bss free c cs f in
    omega (arith, some_ge free (best bss) bs c parts.0, no_way_more bss (less free (given bs c).on) cs parts.1)

-- what is chosen of a bidder's bids is one of them, or none
pub choice_bound : (bss : List Bids) (i : ℕ) (free : Some) → get_or (choice bss free) i 0 ≤ length (get_or bss i [])
unfolding choice best
choice_bound [] i free = omega arith
choice_bound (bs ∷ bss) zero free = (some_got free (best bss) bs).0
choice_bound (bs ∷ bss) (suc i) free = choice_bound bss i (less free (given bs (first_good bs free (best bss) (best (bs ∷ bss) free) 0)).on)

pub best_of_all : BestOfAll
unfolding BestOfAll
best_of_all = λ bss free. (choice-fits bss free, choice_comes bss free, no_way_more bss free)
