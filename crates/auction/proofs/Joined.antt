-- The bidders before one and those after it, parted; and a bidder behind the last, who may be asked first.
-- Assumes nothing.
use Rattle.std.proofs.Common.{◌≡◌, ℕ, zero, suc, ◌+◌, ◌≤◌, true, List, [], ◌∷◌, ◌++◌, get_or, take, drop, refl, ap, ◌∙◌, subst, add-one}
use mathlib.Core.Path.{fun_ext}
use Rattle.std.proofs.lemmas.List.{take_more}
use Rattle.auction.specs.Bids.{Some, within, less, Bids, with_some, best, without}
use Rattle.auction.specs.Laws.{TwoGroups}
use Rattle.auction.specs.Faster.{Joined, LastAdded, OneMore}
use Rattle.auction.proofs.OneBidder.{some_swap}
use Rattle.auction.proofs.Parting.{two_groups}

-- who bids nothing may as well not be there
pub best_around : (bss : List Bids) (i : ℕ) (free : Some) → best (take i bss ++ drop (suc i) bss) free ≡ best (without bss i) free
unfolding best with_some without
best_around [] zero free = refl
best_around [] (suc i) free = refl
best_around (bs ∷ bss) zero free = refl
best_around (bs ∷ bss) (suc i) free = ap (with_some bs free) (fun_ext (best_around bss i))

-- that no way to part the pieces between two groups comes to more than so much, and one comes to it
abbrev Most : List Bids → List Bids → Some → ℕ → Type 0
Most bss css free most =
    ((s : Some) → within s free ≡ true → best bss s + best css (less free s) ≤ most)
    × ((s : Some) × (within s free ≡ true) × (best bss s + best css (less free s) ≡ most))

most_parted : (bss css : List Bids) (free : Some) → Most bss css free (best (bss ++ css) free)
unfolding TwoGroups
most_parted = two_groups

pub joined : Joined
unfolding Joined
joined = λ bss i free.
    rw (add-one i) (subst (λ (n : ℕ). Most (take i bss) (drop (suc i) bss) free n) (best_around bss i free) (most_parted (take i bss) (drop (suc i) bss) free))

pub best_last : (bss : List Bids) (bs : Bids) (free : Some) → best (bss ++ (bs ∷ [])) free ≡ with_some bs free (best bss)
unfolding best
best_last [] bs free = ap (with_some bs free) (fun_ext (λ x. refl))
best_last (ds ∷ bss) bs free =
    ap (with_some ds free) (fun_ext (best_last bss bs))
    ∙ some_swap ds bs free (best bss)
    ∙ ap (with_some bs free) (fun_ext (λ x. refl))

pub last_added : LastAdded
unfolding LastAdded
last_added = best_last

pub one_more : OneMore
unfolding OneMore
one_more = λ bss i free l.
    ap (λ (xs : List Bids). best xs free) (take_more bss i [] l) ∙ best_last (take i bss) (get_or bss i []) free
