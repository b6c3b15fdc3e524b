-- Groups of bidders that want no piece in common: each is settled by itself, in what it comes to, in what is taken, ties included, and in what is paid.
-- Assumes nothing.
use Rattle.std.proofs.Common.{◌≡◌, ℕ, zero, suc, ◌+◌, Bool, true, false, not, ◌⊎◌, List, [], ◌∷◌, get_or, sym, refl, ap, ◌∙◌, ap₂, inl, inr, add_comm, arith}
use Rattle.std.proofs.lemmas.Bool.{not_from_false, not-true, not-false}
use Rattle.auction.specs.Bids.{pick, Some, within, less, Bids, no_bid, with_some, best, first_good, given, choice, without, taken, pays}
use Rattle.auction.specs.Laws.{touches, pieces_of, only, outside, Apart, SameFor, SettledApart, shared, SettledOnPieces}
use Rattle.auction.proofs.Sets.{less-nothing, touches_comm, touches-nothing, touches-within, touches-less}
use Rattle.auction.proofs.Best.{taken_comes}
use Rattle.auction.proofs.Unwanted.{Alike, some_alike, good_alike, Unwanted, best_unwanted, choice_unwanted, pays_unwanted, Fewer, fewer_without}

-- one bidder before others of whom some want none of its pieces: those count as if it had not been asked
module _ (bs : Bids) (free : Some) (f inside others : Some → ℕ) (split : (x : Some) → f x ≡ inside x + others x)
    (kept : (j : ℕ) → others (less free (get_or bs j no_bid).on) ≡ others free) where
  split_alike : Alike free free f inside (others free) bs
  split_alike = record {
    fit = λ j. refl;
    left = λ j. split (less free (get_or bs j no_bid).on) ∙ ap (λ (n : ℕ). inside (less free (get_or bs j no_bid).on) + n) (kept j);
  }

  some_split : with_some bs free f ≡ with_some bs free inside + others free
  some_split = some_alike free free f inside (others free) bs split_alike

  good_split : first_good bs free f (with_some bs free f) 0 ≡ first_good bs free inside (with_some bs free inside) 0
  good_split =
      ap (λ (m : ℕ). first_good bs free f m 0) some_split
      ∙ good_alike free free f inside (others free) bs (with_some bs free inside) 0 split_alike

pub only_at : (group : ℕ → Bool) (bss : List Bids) (i : ℕ) → get_or (only group bss) i [] ≡ pick (group i) (get_or bss i []) []
unfolding only
only_at group [] i = go (group i)
  where
    go : (t : Bool) → [] ≡ pick {A = Bids} t [] []
    go true = refl
    go false = refl
only_at group (bs ∷ bss) zero = refl
only_at group (bs ∷ bss) (suc i) = only_at (λ j. group (suc j)) bss i

unwanted_only : (group : ℕ → Bool) (bss : List Bids) (a : Some) → ((i c : ℕ) → group i ≡ true → touches (pieces_of bss i c) a ≡ false) →
    Unwanted a (only group bss)
unfolding Unwanted touches
unwanted_only group bss a u = λ i c. ap (λ (bs : Bids). touches (get_or bs c no_bid).on a) (only_at group bss i) ∙ go i c (group i) refl
  where
    go : (i c : ℕ) (t : Bool) → group i ≡ t → touches (get_or (pick t (get_or bss i []) []) c no_bid).on a ≡ false
    go i c true e = u i c e
    go i c false e = refl

abbrev next : (ℕ → Bool) → ℕ → Bool
next group i = group (suc i)

apart_next : (group : ℕ → Bool) (bs : Bids) (bss : List Bids) → Apart group (bs ∷ bss) → Apart (next group) bss
unfolding Apart
apart_next group bs bss h = λ i j. h (suc i) (suc j)

apart_outside : (group : ℕ → Bool) (bss : List Bids) → Apart group bss → Apart (outside group) bss
unfolding Apart
apart_outside group bss h = λ i j a c o n.
    touches_comm (pieces_of bss i a) (pieces_of bss j c) ∙ h j i c a (not-false (group j) n) (not-true (group i) o)

-- where the first bidder is in the group nobody outside wants its pieces, and where it is not nobody in the group does
module _ (group : ℕ → Bool) (bs : Bids) (bss : List Bids) (h : Apart group (bs ∷ bss)) where
  unwanted_outside : group 0 ≡ true → (j : ℕ) → Unwanted (get_or bs j no_bid).on (only (outside (next group)) bss)
  unfolding Apart
  unwanted_outside t j =
      unwanted_only (outside (next group)) bss (get_or bs j no_bid).on
      (λ i c o. touches_comm (pieces_of bss i c) (get_or bs j no_bid).on ∙ h 0 (suc i) j c t (not-true (group (suc i)) o))

  unwanted_inside : group 0 ≡ false → (j : ℕ) → Unwanted (get_or bs j no_bid).on (only (next group) bss)
  unfolding Apart
  unwanted_inside t j = unwanted_only (next group) bss (get_or bs j no_bid).on (λ i c o. h (suc i) 0 c j o t)

  given_unwanted : group 0 ≡ false → (c : ℕ) → Unwanted (given bs c).on (only (next group) bss)
  unfolding given
  given_unwanted t zero = unwanted_only (next group) bss [] (λ i c o. touches-nothing (pieces_of bss i c))
  given_unwanted t (suc j) = unwanted_inside t j

pub best_settled : (bss : List Bids) (group : ℕ → Bool) (free : Some) → Apart group bss →
    best bss free ≡ best (only group bss) free + best (only (outside group) bss) free
unfolding best only with_some
best_settled [] group free h = refl
best_settled (bs ∷ bss) group free h = go (group 0) refl (λ f. best_settled bss (next group) f (apart_next group bs bss h))
  where
    inside : Some → ℕ
    inside = best (only (next group) bss)

    others : Some → ℕ
    others = best (only (outside (next group)) bss)

    go : (t : Bool) → group 0 ≡ t → ((f : Some) → best bss f ≡ inside f + others f) →
        with_some bs free (best bss) ≡ with_some (pick t bs []) free inside + with_some (pick (not t) bs []) free others
    go true e split = some_split bs free (best bss) inside others split (λ j. best_unwanted _ free _ (unwanted_outside group bs bss h e j))
    go false e split =
        some_split bs free (best bss) others inside (λ f. split f ∙ add_comm (inside f) (others f)) (λ j. best_unwanted _ free _ (unwanted_inside group bs bss h e j))
        ∙ add_comm (with_some bs free others) (inside free)

-- the first bidder, in the group, takes the bid that it takes with the group alone
first_settled : (group : ℕ → Bool) (bs : Bids) (bss : List Bids) (free : Some) → Apart group (bs ∷ bss) → group 0 ≡ true →
    first_good bs free (best bss) (with_some bs free (best bss)) 0
    ≡ first_good bs free (best (only (next group) bss)) (with_some bs free (best (only (next group) bss))) 0
first_settled group bs bss free h e =
    good_split bs free (best bss) (best (only (next group) bss)) (best (only (outside (next group)) bss))
    (λ f. best_settled bss (next group) f (apart_next group bs bss h))
    (λ j. best_unwanted _ free _ (unwanted_outside group bs bss h e j))

abbrev pub first_of : Bids → Some → (Some → ℕ) → ℕ
first_of bs free f = first_good bs free f (with_some bs free f) 0

choice_settled : (bss : List Bids) (group : ℕ → Bool) (free : Some) → Apart group bss → (i : ℕ) → group i ≡ true →
    get_or (choice bss free) i 0 ≡ get_or (choice (only group bss) free) i 0
unfolding choice only best first_good given
choice_settled [] group free h i m = refl
choice_settled (bs ∷ bss) group free h zero m =
    first_settled group bs bss free h m ∙ sym (ap (λ (t : Bool). first_of (pick t bs []) free (best (only (next group) bss))) m)
choice_settled (bs ∷ bss) group free h (suc i) m = go (group 0) refl (λ f. choice_settled bss (next group) f (apart_next group bs bss h) i m)
  where
    later : List Bids
    later = only (next group) bss

    c : ℕ
    c = first_of bs free (best bss)

    go : (t : Bool) → group 0 ≡ t → ((f : Some) → get_or (choice bss f) i 0 ≡ get_or (choice later f) i 0) →
        get_or (choice bss (less free (given bs c).on)) i 0
        ≡ get_or (choice later (less free (given (pick t bs []) (first_of (pick t bs []) free (best later))).on)) i 0
    go true e same = same _ ∙ ap (λ (d : ℕ). get_or (choice later (less free (given bs d).on)) i 0) (first_settled group bs bss free h e)
    go false e same =
        same _
        ∙ ap (λ (ds : List ℕ). get_or ds i 0) (choice_unwanted later free (given bs c).on (given_unwanted group bs bss h e c))
        ∙ ap (λ (s : Some). get_or (choice later s) i 0) (sym (less-nothing free))

-- bids of which some bidders' are left out stand apart as before
pub fewer_only : (group : ℕ → Bool) (bss : List Bids) → Fewer (only group bss) bss
unfolding Fewer
fewer_only group bss = λ j. go j (group j) (only_at group bss j)
  where
    go : (j : ℕ) (t : Bool) → get_or (only group bss) j [] ≡ pick t (get_or bss j []) [] → (get_or (only group bss) j [] ≡ get_or bss j []) ⊎ (get_or (only group bss) j [] ≡ [])
    go j true e = inl e
    go j false e = inr e

touches_fewer : (bss css : List Bids) → Fewer css bss → (i j a c : ℕ) → touches (pieces_of bss i a) (pieces_of bss j c) ≡ false →
    touches (pieces_of css i a) (pieces_of css j c) ≡ false
unfolding Fewer touches
touches_fewer bss css less-bids i j a c t = go (less-bids i) (less-bids j)
  where
    at : Bids → Bids → Bool
    at bs ds = touches (get_or bs a no_bid).on (get_or ds c no_bid).on

    go : (get_or css i [] ≡ get_or bss i []) ⊎ (get_or css i [] ≡ []) → (get_or css j [] ≡ get_or bss j []) ⊎ (get_or css j [] ≡ []) →
        touches (pieces_of css i a) (pieces_of css j c) ≡ false
    go (inl e) (inl f) = ap₂ at e f ∙ t
    go (inl e) (inr f) = ap (at (get_or css i [])) f ∙ touches-nothing (pieces_of css i a)
    go (inr e) f = ap (λ (bs : Bids). at bs (get_or css j [])) e

pub apart_fewer : (group : ℕ → Bool) (bss css : List Bids) → Fewer css bss → Apart group bss → Apart group css
unfolding Apart
apart_fewer group bss css less-bids h = λ i j a c m n. touches_fewer bss css less-bids i j a c (h i j a c m n)

-- who bids nothing is in no group's way
pick-none : (t : Bool) → pick {A = Bids} t [] [] ≡ []
pick-none true = refl
pick-none false = refl

only-without : (group : ℕ → Bool) (bss : List Bids) (i : ℕ) → only group (without bss i) ≡ without (only group bss) i
unfolding only without
only-without group [] i = refl
only-without group (bs ∷ bss) zero = ap (λ (ds : Bids). ds ∷ only (next group) bss) (pick-none (group 0))
only-without group (bs ∷ bss) (suc i) = ap (λ (xs : List Bids). pick (group 0) bs [] ∷ xs) (only-without (next group) bss i)

outside-without : (group : ℕ → Bool) (bss : List Bids) (i : ℕ) → group i ≡ true → only (outside group) (without bss i) ≡ only (outside group) bss
unfolding only without
outside-without group [] i m = refl
outside-without group (bs ∷ bss) zero m =
    ap (λ (t : Bool). pick (not t) [] [] ∷ only (outside (next group)) bss) m ∙ sym (ap (λ (t : Bool). pick (not t) bs [] ∷ only (outside (next group)) bss) m)
outside-without group (bs ∷ bss) (suc i) m = ap (λ (xs : List Bids). pick (not (group 0)) bs [] ∷ xs) (outside-without (next group) bss i m)

module _ (bss : List Bids) (group : ℕ → Bool) (free : Some) (h : Apart group bss) (i : ℕ) (m : group i ≡ true) where
  price_settled : (taken bss free i).price ≡ (taken (only group bss) free i).price
  price_settled =
      ap₂ (λ (bs : Bids) (c : ℕ). (given bs c).price)
      (sym (only_at group bss i ∙ ap (λ (t : Bool). pick t (get_or bss i []) []) m))
      (choice_settled bss group free h i m)

  others_settled : best (without bss i) free ≡ best (without (only group bss) i) free + best (only (outside group) bss) free
  others_settled =
      best_settled (without bss i) group free (apart_fewer group bss (without bss i) (fewer_without bss i) h)
      ∙ ap₂ (λ (xs ys : List Bids). best xs free + best ys free) (only-without group bss i) (outside-without group bss i m)

  pays_settled : pays bss free i ≡ pays (only group bss) free i
  pays_settled = omega (arith, price_settled, others_settled, best_settled bss group free h, taken_comes (only group bss) free i)

  pub same_settled : SameFor bss free (only group bss) free i
  unfolding SameFor
  same_settled = (choice_settled bss group free h i m, pays_settled)

pub settled_apart : SettledApart
unfolding SettledApart
settled_apart = λ group bss free h. (
  best_settled bss group free h,
  same_settled bss group free h,
  λ i n. same_settled bss (outside group) free (apart_outside group bss h) i (not_from_false (group i) n),
)

-- two lists of bids, the second of which does not want some pieces, which can be left out
same_without : (bss css : List Bids) (free a : Some) (i : ℕ) → Unwanted a css → SameFor bss free css free i → SameFor bss free css (less free a) i
unfolding SameFor
same_without bss css free a i u (c, p) =
    (c ∙ sym (ap (λ (ds : List ℕ). get_or ds i 0) (choice_unwanted css free a u)), p ∙ sym (pays_unwanted css free a u i))

-- the group is given by its pieces p
module _ (group : ℕ → Bool) (bss : List Bids) (free p : Some) (mine : (i a : ℕ) → group i ≡ true → within (pieces_of bss i a) p ≡ true)
    (theirs : (i a : ℕ) → group i ≡ false → touches (pieces_of bss i a) p ≡ false) where
  apart_by_pieces : Apart group bss
  unfolding Apart
  apart_by_pieces = λ i j a c m n. touches-within (pieces_of bss i a) p (pieces_of bss j c) (mine i a m) (theirs j c n)

  unwanted_rest : Unwanted (less free p) (only group bss)
  unwanted_rest = unwanted_only group bss (less free p) (λ i c m. touches-less (pieces_of bss i c) free p (mine i c m))

  unwanted_mine : Unwanted p (only (outside group) bss)
  unwanted_mine = unwanted_only (outside group) bss p (λ i c m. theirs i c (not-true (group i) m))

  best_on_pieces : best bss free ≡ best (only group bss) (shared free p) + best (only (outside group) bss) (less free p)
  best_on_pieces =
      best_settled bss group free apart_by_pieces
      ∙ ap₂ (λ (m n : ℕ). m + n)
      (sym (best_unwanted (only group bss) free (less free p) unwanted_rest))
      (sym (best_unwanted (only (outside group) bss) free p unwanted_mine))

pub settled_on_pieces : SettledOnPieces
unfolding SettledOnPieces
settled_on_pieces = λ group bss free p mine theirs.
    let apart : Apart group bss = apart_by_pieces group bss free p mine theirs in (
      best_on_pieces group bss free p mine theirs,
      λ i m. same_without bss (only group bss) free (less free p) i (unwanted_rest group bss free p mine theirs) (same_settled bss group free apart i m),
      λ i n. same_without bss (only (outside group) bss) free p i (unwanted_mine group bss free p mine theirs)
          (same_settled bss (outside group) free (apart_outside group bss apart) i (not_from_false (group i) n)),
    )
