-- The most of all ways, bid by bid from a bidder's last one on. Assumes nothing.
use Rattle.std.proofs.Common.{◌≡◌, ℕ, ◌+◌, ◌<◌, ◌≤◌, max, true, false, List, [], ◌∷◌, length, get_or, drop, sym, ap, subst, arith}
use Rattle.std.proofs.lemmas.List.{drop_all, drop_more}
use Rattle.auction.specs.Bids.{Some, Bids, pick, within, less, larger, with_some, best}
use Rattle.auction.specs.Promise.{BestOfAll}
use Rattle.auction.proofs.Choice.{best_of_all}
use Rattle.auction.proofs.OneBidder.{larger_is}
use Rattle.bundles.specs.declared.Bid.{Bid}
use Rattle.bundles.specs.Offers.{meant, all_meant}
use Rattle.bundles.proofs.Picks.{pick_yes, pick_no}
use Rattle.solver.specs.Welfare.{Most}
use Rattle.solver.proofs.Goods.{nothing}

-- what is best is the most of all ways
pub best_is_most : (bss : List Bids) (free : Some) (m : ℕ) → m ≡ best bss free → Most bss free m
unfolding BestOfAll
best_is_most bss free m e =
    let ways = best_of_all bss free in
    let P : ℕ → Type 0 = λ v. Most bss free v in
    subst P (sym e) (record { way = (_, ways.0, ways.1); none_more = ways.2 })

-- the bids before a place have been asked, and those from it on are still to be
pub record Asked (bids : List Bid) (i : ℕ) (free : Some) (rest : Some → ℕ) (most : ℕ) : Type 0 where
  pub is : max most (with_some (all_meant (drop i bids)) free rest) ≡ with_some (all_meant bids) free rest
  pub least : rest free ≤ most

-- nothing taken of them comes to no more
none_less : (bs : Bids) (free : Some) (rest : Some → ℕ) → rest free ≤ with_some bs free rest
unfolding with_some
none_less [] free rest = omega arith
none_less (b ∷ bs) free rest = omega (arith, none_less bs free rest, larger_is (pick (within b.on free) (b.price + rest (less free b.on)) 0) (with_some bs free rest))

pub asked-none : (bids : List Bid) (free : Some) (rest : Some → ℕ) (most : ℕ) → most ≡ rest free → Asked bids 0 free rest most
asked-none bids free rest most e = record { is = omega (arith, e, none_less (all_meant bids) free rest); least = omega arith }

-- one bid more
module _ (bids : List Bid) (i : ℕ) (free : Some) (rest : Some → ℕ) (most : ℕ) (lt : i < length bids) (asked : Asked bids i free rest most) where
  abbrev pub on : Some
  on = (meant (get_or bids i nothing)).on

  abbrev pub offer : ℕ
  offer = (get_or bids i nothing).price + rest (less free on)

  front : with_some (all_meant (drop i bids)) free rest ≡ larger (pick (within on free) offer 0) (with_some (all_meant (drop (i + 1) bids)) free rest)
  unfolding with_some
  front = ap (λ (bs : List Bid). with_some (all_meant bs) free rest) (drop_more bids i nothing lt)

  pub asked_misses : within on free ≡ false → Asked bids (i + 1) free rest most
  asked_misses out = record { is = omega (arith, front, asked.is, pick_no offer 0 out, larger_is (pick (within on free) offer 0) (with_some (all_meant (drop (i + 1) bids)) free rest)); least = asked.least }

  pub asked-fits : within on free ≡ true → (sum : ℕ) → sum ≡ offer → Asked bids (i + 1) free rest (max most sum)
  asked-fits fits sum e =
      record { is = omega (arith, e, front, asked.is, pick_yes offer 0 fits, larger_is (pick (within on free) offer 0) (with_some (all_meant (drop (i + 1) bids)) free rest)); least = omega (arith, asked.least) }

-- all have been asked
pub asked-all : (bids : List Bid) (i : ℕ) (free : Some) (rest : Some → ℕ) (most : ℕ) → length bids ≤ i → Asked bids i free rest most → most ≡ with_some (all_meant bids) free rest
unfolding with_some
asked-all bids i free rest most le asked = omega (arith, asked.is, asked.least, ap (λ (bs : List Bid). with_some (all_meant bs) free rest) (drop_all i bids le))
