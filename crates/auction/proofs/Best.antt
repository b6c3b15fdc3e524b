-- All bidders: the best of what is free, any one bidder asked first, and what the bid that is taken comes to.
-- Assumes nothing.
use Rattle.std.proofs.Common.{◌≡◌, ℕ, zero, suc, ◌+◌, ◌≤◌, true, List, [], ◌∷◌, get_or, sym, refl, ap, ◌∙◌, subst, arith}
use mathlib.Core.Path.{fun_ext}
use Rattle.auction.specs.Bids.{Some, within, less, Bid, Bids, with_some, best, no_bid, given, choice, without, taken, pays}
use Rattle.auction.specs.Promise.{fits_all, sum_of}
use Rattle.auction.specs.Laws.{BestWay, got_by, clarke}
use Rattle.auction.proofs.Sets.{less-within, less_comm, within_trans, within_swap}
use Rattle.auction.proofs.OneBidder.{with_bid, fits, some_ge, Got, some_mono, some_swap, some_none}
use Rattle.auction.proofs.Choice.{fits_parts, choice-fits, choice_comes, choice_bound, no_way_more}

pub best_mono : (bss : List Bids) (s t : Some) → within s t ≡ true → best bss s ≤ best bss t
unfolding best
best_mono [] s t w = omega arith
best_mono (bs ∷ bss) s t w = some_mono bs s t (best bss) (best_mono bss) w

-- any one bidder can be asked first
pub best_apart : (bss : List Bids) (i : ℕ) (free : Some) → best bss free ≡ with_some (get_or bss i []) free (best (without bss i))
unfolding best with_some without
best_apart [] i free = refl
best_apart (bs ∷ bss) zero free = ap (with_some bs free) (fun_ext (λ x. refl))
best_apart (bs ∷ bss) (suc i) free =
    ap (with_some bs free) (fun_ext (best_apart bss i))
    ∙ some_swap bs (get_or bss i []) free (best (without bss i))
    ∙ ap (with_some (get_or bss i []) free) (fun_ext (λ x. refl))

-- where nobody bids nothing is had
pub best-nothing : (bss : List Bids) (free : Some) → ((i : ℕ) → get_or bss i [] ≡ []) → best bss free ≡ 0
unfolding best with_some
best-nothing [] free e = refl
best-nothing (bs ∷ bss) free e = ap (λ (ds : Bids). with_some ds free (best bss)) (e 0) ∙ best-nothing bss free (λ i. e (suc i))

-- nothing can be taken of no bids
pub given-none : (c : ℕ) → given [] c ≡ no_bid
unfolding given
given-none zero = refl
given-none (suc j) = refl

-- what a bidder gets by a way that fits, and the rest of that way in what it leaves
abbrev Settles : List Bids → Some → List ℕ → ℕ → Bid → Type 0
Settles bss free cs i b = (fits b free ≡ true) × (sum_of bss cs ≤ with_bid b free (best (without bss i)))

settles_none : (bss : List Bids) (free : Some) (i : ℕ) → Settles bss free [] i no_bid
unfolding sum_of within
settles_none [] free i = (refl, omega arith)
settles_none (bs ∷ bss) free i = (refl, omega arith)

way_settles : (bss : List Bids) (free : Some) (cs : List ℕ) (i : ℕ) → fits_all bss free cs ≡ true → Settles bss free cs i (got_by bss cs i)
unfolding sum_of best with_some without given within
way_settles [] free cs i f = subst (λ (b : Bid). Settles [] free cs i b) (sym (given-none (get_or cs i 0))) (refl, omega arith)
way_settles (bs ∷ bss) free [] i f = settles_none (bs ∷ bss) free i
way_settles (bs ∷ bss) free (c ∷ cs) zero f =
    let parts = fits_parts bs bss free c cs f in
    (parts.0, omega (arith, no_way_more bss (less free (given bs c).on) cs parts.1))
way_settles (bs ∷ bss) free (c ∷ cs) (suc i) f =
    let parts = fits_parts bs bss free c cs f in
    let first : Bid = given bs c in
    let b : Bid = got_by bss cs i in
    let left : Some = less free first.on in
    let (fit, below) = way_settles bss left cs i parts.1 in
    let others : Some → ℕ = best (without bss i) in
    let firsts : with_bid first (less free b.on) others ≤ with_some bs (less free b.on) others =
    some_ge (less free b.on) others bs c (within_swap first.on b.on free parts.0 fit) in
    let same : others (less left b.on) ≡ others (less (less free b.on) first.on) = ap others (less_comm free first.on b.on) in
    (within_trans b.on left free fit (less-within free first.on), omega arith)

-- any way that fits and comes to the best, by whatever rule for ties
module _ (bss : List Bids) (free : Some) (cs : List ℕ) (way : BestWay bss free cs) (i : ℕ) where
  pub way_fits : fits (got_by bss cs i) free ≡ true
  way_fits = (way_settles bss free cs i way.0).0

  -- the bid taken and the best of the others with what it leaves come to the best of all
  pub way_comes : with_bid (got_by bss cs i) free (best (without bss i)) ≡ best bss free
  way_comes =
      omega (
        arith,
        way.1,
        (way_settles bss free cs i way.0).1,
        best_apart bss i free,
        some_ge free (best (without bss i)) (get_or bss i []) (get_or cs i 0) way_fits,
      )

  -- the Clarke payment without cut-off subtractions: what is paid makes up for what the others lose by the pieces that are gone
  pub clarke_is : clarke bss free cs i + best (without bss i) (less free (got_by bss cs i).on) ≡ best (without bss i) free
  clarke_is =
      omega (arith, way_comes, best_mono (without bss i) (less free (got_by bss cs i).on) free (less-within free (got_by bss cs i).on))

pub choice-best : (bss : List Bids) (free : Some) → BestWay bss free (choice bss free)
choice-best bss free = (choice-fits bss free, choice_comes bss free)

module _ (bss : List Bids) (free : Some) (i : ℕ) where
  pub taken_comes : with_bid (taken bss free i) free (best (without bss i)) ≡ best bss free
  taken_comes = way_comes bss free (choice bss free) (choice-best bss free) i

  pub pays_is : pays bss free i + best (without bss i) (less free (taken bss free i).on) ≡ best (without bss i) free
  pays_is = omega (arith, clarke_is bss free (choice bss free) (choice-best bss free) i)

  -- it is the bid with which the most is had, were the bidder asked first
  pub taken_got : Got free (best (without bss i)) (get_or bss i []) (get_or (choice bss free) i 0)
  taken_got = (choice_bound bss i free, way_fits bss free (choice bss free) (choice-best bss free) i, taken_comes ∙ best_apart bss i free)

  pub others_below : best (without bss i) free ≤ best bss free
  others_below = omega (arith, best_apart bss i free, some_none free (best (without bss i)) (get_or bss i []))
