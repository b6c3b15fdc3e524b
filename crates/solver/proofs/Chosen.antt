-- What a bidder gets, read off the tables: the number of its bid, its price and what is left. Assumes nothing.
use Rattle.std.proofs.Common.{◌≡◌, ℕ, ◌+◌, ◌^◌, ◌<◌, List, [], length, get_or, drop, Option, None, Some as there, sym, refl, ap, ◌∙◌, subst, ap₂, add-one, arith}
use lib.Bits.{and_zero_r}
use Rattle.std.proofs.lemmas.List.{drop_more, get_or-map}
use Rattle.auction.specs.Bids.{Some, Bids, no_bid, less, best, choice, given, first_good, Bid as Offer}
use Rattle.auction.proofs.Sets.{less-nothing}
use Rattle.bundles.specs.declared.Bid.{Bid}
use Rattle.bundles.specs.Masks.{bits}
use Rattle.bundles.specs.Offers.{meant, all_meant}
use Rattle.bundles.proofs.Sets.{less-bits}
use Rattle.solver.specs.Tables.{sum_in, Holds}
use Rattle.solver.specs.Choosing.{IsTaken}
use Rattle.solver.specs.declared.outcome.Taken.{Taken}
use Rattle.solver.proofs.Goods.{nothing}

-- the first of those that are left to choose
choice_head : (bss : List Bids) (i : ℕ) (free : Some) → i < length bss →
    get_or (choice (drop i bss) free) 0 0 ≡ first_good (get_or bss i []) free (best (drop (i + 1) bss)) (best (drop i bss) free) 0
unfolding choice
choice_head bss i free lt =
    ap (λ (css : List Bids). get_or (choice css free) 0 0) (drop_more bss i [] lt)
    ∙ ap (λ (css : List Bids). first_good (get_or bss i []) free (best (drop (i + 1) bss)) (best css free) 0) (sym (drop_more bss i [] lt))

-- the number that is found by the sums is the meaning's
pub number_is : (t : List ℕ) (n : ℕ) (bss : List Bids) (i free most c : ℕ) (bs : Bids) → i < length bss → free < 2 ^ n → Holds t n (best (drop i bss)) → most ≡ sum_in t free → bs ≡ get_or bss i [] →
    c ≡ first_good bs (bits n free) (best (drop (i + 1) bss)) most 0 → c ≡ get_or (choice (drop i bss) (bits n free)) 0 0
number_is t n bss i free most c bs lt h holds most-is bs-is found =
    found
    ∙ ap₂ (λ (xs : Bids) (m : ℕ). first_good xs (bits n free) (best (drop (i + 1) bss)) m 0) bs-is (most-is ∙ holds.sums free h)
    ∙ sym (choice_head bss i (bits n free) lt)

-- a bid by its place
pub taken_there : (bids : List Bid) (bs : Bids) (i c : ℕ) (t : Taken) → i < length bids → all_meant bids ≡ bs → i + 1 ≡ c → t.place ≡ i + 1 → t.bid ≡ get_or bids i nothing → IsTaken bs c (there t)
unfolding given
taken_there bids bs i c t lt these number place bid =
    let this : get_or (all_meant bids) i no_bid ≡ meant t.bid = get_or-map meant bids i nothing no_bid lt ∙ ap meant (sym bid) in
    let B : Bids → Type 0 = λ os. IsTaken os c (there t) in
    let T : ℕ → Type 0 = λ k. IsTaken (all_meant bids) k (there t) in
    subst B these (subst T (sym (add-one i) ∙ number) (record { place = place ∙ add-one i; price = sym (ap {B = ℕ} (λ (o : Offer). o.price) this); left = λ n s. sym (ap {B = Some} (λ (o : Offer). less (bits n s) o.on) this) }))

-- nothing is taken, and all is left
pub none-taken : (bs : Bids) (c : ℕ) (t : Option Taken) → 0 ≡ c → t ≡ None → IsTaken bs c t
unfolding given
none-taken bs c t number none =
    let T : ℕ → Type 0 = λ k. IsTaken bs k None in
    let N : Option Taken → Type 0 = λ o. IsTaken bs c o in
    subst N (sym none) (subst T number (record { place = refl; price = refl; left = λ n s. sym (less-bits n 16 s 0 s (omega arith) (omega (arith, and_zero_r s))) ∙ sym (less-nothing (bits n s)) }))
