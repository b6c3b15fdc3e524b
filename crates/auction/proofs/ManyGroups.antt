-- Many groups of bidders, of which no two want a piece in common: the best is the sum of theirs, and each is settled by itself.
-- Assumes nothing.
use Rattle.std.proofs.Common.{◌≡◌, ℕ, zero, suc, ◌+◌, ◌<◌, Bool, true, false, not, ◌&&◌, eqb, ltb, ◌≢◌, List, [], ◌∷◌, length, get_or, sym, refl, ap, ◌∙◌, ap₂, arith}
use Rattle.std.proofs.lemmas.Bool.{eqb-true, eqb-false, eq-eqb, ltb-true, ltb-false, lt-ltb, le-ltb, and_parts, and_from, not-true, not_from_false}
use Rattle.auction.specs.Bids.{pick, Some, Bids, best}
use Rattle.auction.specs.Laws.{touches, pieces_of, only, outside, Apart, summed, numbered, ManyGroups}
use Rattle.auction.proofs.Sets.{same_test}
use Rattle.auction.proofs.Best.{best-nothing}
use Rattle.auction.proofs.Groups.{only_at, best_settled, same_settled, fewer_only, apart_fewer}

-- the bids of some of some of the bidders, those of everybody, and those of nobody
only-only : (f g h : ℕ → Bool) (bss : List Bids) → ((i : ℕ) → h i ≡ (f i && g i)) → only f (only g bss) ≡ only h bss
unfolding only
only-only f g h [] e = refl
only-only f g h (bs ∷ bss) e =
    ap₂ (λ (ds : Bids) (xs : List Bids). ds ∷ xs)
    (go (f 0) (g 0) ∙ sym (ap (λ (t : Bool). pick t bs []) (e 0)))
    (only-only (λ i. f (suc i)) (λ i. g (suc i)) (λ i. h (suc i)) bss (λ i. e (suc i)))
  where
    go : (x y : Bool) → pick x (pick y bs []) [] ≡ pick (x && y) bs []
    go true y = refl
    go false y = refl

only-all : (g : ℕ → Bool) (bss : List Bids) → ((i : ℕ) → i < length bss → g i ≡ true) → only g bss ≡ bss
unfolding only
only-all g [] e = refl
only-all g (bs ∷ bss) e =
    ap₂ (λ (t : Bool) (xs : List Bids). pick t bs [] ∷ xs) (e 0 (omega arith)) (only-all (λ i. g (suc i)) bss (λ i l. e (suc i) (omega arith)))

best-nobody : (g : ℕ → Bool) (bss : List Bids) (free : Some) → ((i : ℕ) → g i ≡ false) → best (only g bss) free ≡ 0
best-nobody g bss free e = best-nothing (only g bss) free (λ i. only_at g bss i ∙ ap (λ (t : Bool). pick t (get_or bss i []) []) (e i))

module _ (group_of : ℕ → ℕ) (bss : List Bids)
    (apart : (i j a c : ℕ) → group_of i ≢ group_of j → touches (pieces_of bss i a) (pieces_of bss j c) ≡ false) where
  below : ℕ → ℕ → Bool
  below g i = ltb (group_of i) g

  apart_below : (g : ℕ) → Apart (below g) bss
  unfolding Apart below
  apart_below g = λ i j a c m n. apart i j a c (λ e. omega (arith, ltb-true (group_of i) g m, ltb-false (group_of j) g n))

  apart_numbered : (g : ℕ) → Apart (numbered group_of g) bss
  unfolding Apart
  apart_numbered g = λ i j a c m n. apart i j a c (λ e. eqb-false (group_of j) g n (sym e ∙ eqb-true (group_of i) g m))

  -- the groups below the next number are those below this one, and this one
  below_this : (g i : ℕ) → below g i ≡ (below g i && below (suc g) i)
  unfolding below
  below_this g i =
      same_test (ltb (group_of i) g) (ltb (group_of i) g && ltb (group_of i) (suc g))
      (λ t. and_from _ _ t (lt-ltb (group_of i) (suc g) (omega (arith, ltb-true (group_of i) g t))))
      (λ t. (and_parts (ltb (group_of i) g) (ltb (group_of i) (suc g)) t).0)

  this_one : (g i : ℕ) → numbered group_of g i ≡ (outside (below g) i && below (suc g) i)
  unfolding below
  this_one g i =
      same_test (eqb (group_of i) g) (not (ltb (group_of i) g) && ltb (group_of i) (suc g))
      (λ t. and_from _ _ (not_from_false (ltb (group_of i) g) (le-ltb (group_of i) g (omega (arith, eqb-true (group_of i) g t))))
      (lt-ltb (group_of i) (suc g) (omega (arith, eqb-true (group_of i) g t))))
      (λ t. let p = and_parts (not (ltb (group_of i) g)) (ltb (group_of i) (suc g)) t in
      eq-eqb (group_of i) g (omega (arith, ltb-false (group_of i) g (not-true (ltb (group_of i) g) p.0), ltb-true (group_of i) (suc g) p.1)))

  best_below : (free : Some) (g : ℕ) → best (only (below g) bss) free ≡ summed g (λ k. best (only (numbered group_of k) bss) free)
  unfolding summed below
  best_below free zero = best-nobody (below 0) bss free (λ i. le-ltb (group_of i) 0 (omega arith))
  best_below free (suc g) =
      best_settled (only (below (suc g)) bss) (below g) free (apart_fewer (below g) bss (only (below (suc g)) bss) (fewer_only (below (suc g)) bss) (apart_below g))
      ∙ ap₂ (λ (xs ys : List Bids). best xs free + best ys free)
      (only-only (below g) (below (suc g)) (below g) bss (below_this g))
      (only-only (outside (below g)) (below (suc g)) (numbered group_of g) bss (this_one g))
      ∙ ap (λ (n : ℕ). n + best (only (numbered group_of g) bss) free) (best_below free g)

  best-summed : (groups : ℕ) (free : Some) → ((i : ℕ) → i < length bss → group_of i < groups) →
      best bss free ≡ summed groups (λ k. best (only (numbered group_of k) bss) free)
  unfolding below
  best-summed groups free within-groups =
      sym (ap (λ (xs : List Bids). best xs free) (only-all (below groups) bss (λ i l. lt-ltb (group_of i) groups (within-groups i l))))
      ∙ best_below free groups

pub many_groups : ManyGroups
unfolding ManyGroups
many_groups = λ group_of groups bss free within-groups apart. (
  best-summed group_of bss apart groups free within-groups,
  λ i. same_settled bss (numbered group_of (group_of i)) free (apart_numbered group_of bss apart (group_of i)) i (eq-eqb (group_of i) (group_of i) refl),
)
