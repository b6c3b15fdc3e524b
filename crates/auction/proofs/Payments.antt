-- What is paid: never more than was bid, nothing by who gets nothing, and never more than the pieces are worth to who bids the truth.
-- Assumes nothing.
use Rattle.std.proofs.Common.{◌≡◌, ℕ, zero, suc, ◌≤◌, Bool, true, false, ◌⊎◌, List, [], ◌∷◌, get_or, sym, refl, ap, ◌∙◌, inl, inr, arith}
use Rattle.auction.specs.Bids.{pick, Some, within, all, Bid, Bids, no_bid, larger, given, choice, taken, pays}
use Rattle.auction.specs.Promise.{worth, NotMoreThanBid, NeverLoses}
use Rattle.auction.proofs.Sets.{within_refl}
use Rattle.auction.proofs.OneBidder.{larger_is, fits}
use Rattle.auction.proofs.Best.{taken_comes, others_below, pays_is}

pub pays_below : (bss : List Bids) (free : Some) (i : ℕ) → pays bss free i ≤ (taken bss free i).price
pays_below bss free i = omega (arith, pays_is bss free i, taken_comes bss free i, others_below bss free i)

pub nothing_got : (bss : List Bids) (free : Some) (i : ℕ) → get_or (choice bss free) i 0 ≡ 0 → pays bss free i ≡ 0
unfolding given
nothing_got bss free i z =
    let nothing : (given (get_or bss i []) (get_or (choice bss free) i 0)).price ≡ 0 = ap (λ (c : ℕ). (given (get_or bss i []) c).price) z in
    omega (arith, pays_below bss free i)

-- `i < length bss` is not used: past the bidders nothing is taken and nothing paid
pub not_more_than_bid : NotMoreThanBid
unfolding NotMoreThanBid
not_more_than_bid = λ bss i n _. (pays_below bss (all n) i, nothing_got bss (all n) i)

worth-at : (bs : Bids) (j : ℕ) (s : Some) → fits (get_or bs j no_bid) s ≡ true → (get_or bs j no_bid).price ≤ worth bs s
unfolding worth
worth-at [] j s w = omega arith
worth-at (b ∷ bs) zero s w =
    let offer : pick (fits b s) b.price 0 ≡ b.price = ap (λ (t : Bool). pick t b.price 0) w in
    omega (arith, larger_is (pick (fits b s) b.price 0) (worth bs s))
worth-at (b ∷ bs) (suc j) s w = omega (arith, worth-at bs j s w, larger_is (pick (fits b s) b.price 0) (worth bs s))

-- some pieces are worth at least what any bid within them says
pub worth_ge : (bs : Bids) (c : ℕ) (s : Some) → fits (given bs c) s ≡ true → (given bs c).price ≤ worth bs s
unfolding given
worth_ge bs zero s w = omega arith
worth_ge bs (suc j) s w = worth-at bs j s w

abbrev pub Says : Bids → Some → ℕ → ℕ → Type 0
Says bs s m c = (fits (given bs c) s ≡ true) × ((given bs c).price ≡ m)

says_later : (b : Bid) (bs : Bids) (s : Some) (m c : ℕ) → Says bs s m c → (d : ℕ) × Says (b ∷ bs) s m d
unfolding given
says_later b bs s m zero h = (0, h)
says_later b bs s m (suc j) h = (suc (suc j), h)

-- and what one of the bids, or none, says
pub worth_got : (bs : Bids) (s : Some) → (c : ℕ) × Says bs s (worth bs s) c
unfolding worth given within
worth_got [] s = (0, (refl, refl))
worth_got (b ∷ bs) s = go (fits b s) refl (larger_is offer (worth bs s)).2 (worth_got bs s)
  where
    offer : ℕ
    offer = pick (fits b s) b.price 0

    most : ℕ
    most = larger offer (worth bs s)

    go : (t : Bool) → fits b s ≡ t → (most ≡ offer) ⊎ (most ≡ worth bs s) → (c : ℕ) × Says bs s (worth bs s) c → (c : ℕ) × Says (b ∷ bs) s most c
    go true e (inl o) later = (1, (e, sym (o ∙ ap (λ (t : Bool). pick t b.price 0) e)))
    go false e (inl o) later = (0, (refl, sym (o ∙ ap (λ (t : Bool). pick t b.price 0) e)))
    go t e (inr o) (c, says) = says_later b bs s most c (says.0, says.1 ∙ sym o)

-- what is got is worth what is paid, by the bids that were made
pub worth-taken : (bss : List Bids) (free : Some) (i : ℕ) → pays bss free i ≤ worth (get_or bss i []) (taken bss free i).on
worth-taken bss free i =
    omega (arith, pays_below bss free i, worth_ge (get_or bss i []) (get_or (choice bss free) i 0) (taken bss free i).on (within_refl (taken bss free i).on))

-- `i < length bss` is not used here either
pub never_loses : NeverLoses
unfolding NeverLoses
never_loses = λ bss i n _. worth-taken bss (all n) i
