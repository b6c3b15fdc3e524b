-- Bids that cannot matter: one is covered by another on no other pieces that is as dear or dearer. With the others alone as much is had.
-- Assumes nothing.
use Rattle.std.proofs.Common.{◌≡◌, ℕ, zero, suc, ◌<◌, ◌≤◌, true, leb, List, [], ◌∷◌, length, get_or, sym, refl, ap, ◌∙◌, subst, arith}
use mathlib.Core.Path.{fun_ext}
use Rattle.std.proofs.lemmas.Bool.{and_parts, and_from, leb-true, le-leb}
use Rattle.auction.specs.Bids.{Some, within, less, Bid, Bids, no_bid, with_some, best, first_good, given, without}
use Rattle.auction.specs.Faster.{covers, Kept, KeptBids, KeptBest}
use Rattle.auction.proofs.Sets.{within_refl, within_trans, less_anti}
use Rattle.auction.proofs.OneBidder.{with_bid, fits, some_none, some_ge, some_got, with_no_bid, Got}
use Rattle.auction.proofs.Best.{best_mono}

pub covers_itself : (b : Bid) → covers b b ≡ true
covers_itself b = and_from (within b.on b.on) (leb b.price b.price) (within_refl b.on) (le-leb b.price b.price (omega arith))

pub covers_trans : (a b c : Bid) → covers a b ≡ true → covers b c ≡ true → covers a c ≡ true
covers_trans a b c k l =
    let (ab, b-below) = and_parts (within a.on b.on) (leb b.price a.price) k in
    let (bc, c-below) = and_parts (within b.on c.on) (leb c.price b.price) l in
    and_from (within a.on c.on) (leb c.price a.price) (within_trans a.on b.on c.on ab bc)
    (le-leb c.price a.price (omega (arith, leb-true b.price a.price b-below, leb-true c.price b.price c-below)))

-- more pieces never bring the others less
module _ (free : Some) (rest : Some → ℕ) (up : (s t : Some) → within s t ≡ true → rest s ≤ rest t) where
  -- who takes the covering bid in the place of the covered one has as much, and leaves as much
  cover_ge : (b c : Bid) → covers b c ≡ true → fits c free ≡ true → (fits b free ≡ true) × (with_bid c free rest ≤ with_bid b free rest)
  cover_ge b c k w =
      let (smaller, dearer) = and_parts (within b.on c.on) (leb c.price b.price) k in (
        within_trans b.on c.on free smaller w,
        omega (arith, leb-true c.price b.price dearer, up (less free c.on) (less free b.on) (less_anti free b.on c.on smaller)),
      )

  -- where each of some bids is covered by one of others, these bring as much
  pub some_covered : (bs ds : Bids) → ((i : ℕ) → i < length bs → (j : ℕ) × (covers (get_or ds j no_bid) (get_or bs i no_bid) ≡ true)) →
      with_some bs free rest ≤ with_some ds free rest
  unfolding given
  some_covered bs ds cover = go (first_good bs free rest (with_some bs free rest) 0) (some_got free rest bs)
    where
      go : (c : ℕ) → Got free rest bs c → with_some bs free rest ≤ with_some ds free rest
      go zero (l, w, e) = omega (arith, with_no_bid free rest, some_none free rest ds)
      go (suc i) (l, w, e) =
          let (j, k) = cover i l in
          let (fit, more) = cover_ge (get_or ds j no_bid) (get_or bs i no_bid) k w in
          omega (arith, some_ge free rest ds (suc j) fit)

  pub some_kept : (kept made : Bids) → Kept kept made → with_some kept free rest ≡ with_some made free rest
  some_kept kept made k =
      let below : with_some kept free rest ≤ with_some made free rest = some_covered kept made (λ j l.
      let (i, e) = k.among j l in
      (i, subst (λ (b : Bid). covers b (get_or kept j no_bid) ≡ true) (sym e) (covers_itself (get_or kept j no_bid)))) in
      omega (arith, some_covered made kept k.covered)

pub kept_bids : KeptBids
unfolding KeptBids
kept_bids = λ kept made free rest k up. some_kept free rest up kept made k

-- of each bidder some bids are kept
abbrev pub AllKept : List Bids → List Bids → Type 0
AllKept kepts bss = (i : ℕ) → i < length bss → Kept (get_or kepts i []) (get_or bss i [])

later_kept : (ks bs : Bids) (kepts bss : List Bids) → AllKept (ks ∷ kepts) (bs ∷ bss) → AllKept kepts bss
later_kept ks bs kepts bss k = λ i l. k (suc i) (omega arith)

pub best_kept : (kepts bss : List Bids) (free : Some) → length kepts ≡ length bss → AllKept kepts bss → best kepts free ≡ best bss free
unfolding best
best_kept [] [] free e k = refl
best_kept [] (bs ∷ bss) free e k = absurd (omega arith)
best_kept (ks ∷ kepts) [] free e k = absurd (omega arith)
best_kept (ks ∷ kepts) (bs ∷ bss) free e k =
    some_kept free (best kepts) (best_mono kepts) ks bs (k 0 (omega arith))
    ∙ ap (with_some bs free) (fun_ext (λ f. best_kept kepts bss f (omega arith) (later_kept ks bs kepts bss k)))

pub others_kept : (kepts bss : List Bids) (i : ℕ) (free : Some) → length kepts ≡ length bss → AllKept kepts bss →
    best (without kepts i) free ≡ best (without bss i) free
unfolding best with_some without
others_kept [] [] i free e k = refl
others_kept [] (bs ∷ bss) i free e k = absurd (omega arith)
others_kept (ks ∷ kepts) [] i free e k = absurd (omega arith)
others_kept (ks ∷ kepts) (bs ∷ bss) zero free e k = best_kept kepts bss free (omega arith) (later_kept ks bs kepts bss k)
others_kept (ks ∷ kepts) (bs ∷ bss) (suc i) free e k =
    some_kept free (best (without kepts i)) (best_mono (without kepts i)) ks bs (k 0 (omega arith))
    ∙ ap (with_some bs free) (fun_ext (λ f. others_kept kepts bss i f (omega arith) (later_kept ks bs kepts bss k)))

pub kept_best : KeptBest
unfolding KeptBest
kept_best = λ kepts bss free e k. (best_kept kepts bss free e k, λ i. others_kept kepts bss i free e k)
