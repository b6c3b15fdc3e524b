-- Raising the price of a bid that was taken: the same bid is taken, by its place, and no more is paid.
-- Assumes nothing.
use Rattle.std.proofs.Common.{◌≡◌, ℕ, zero, suc, ◌+◌, ◌<◌, ◌≤◌, true, ◌≢◌, ◌⊎◌, List, [], length, get_or, set, sym, refl, ap, ◌∙◌, subst, ap₂, inl, inr, add-zero, arith}
use Rattle.std.proofs.lemmas.List.{get_or-set_same, get_or-set_other, get_or_past, set-get_or}
use Rattle.std.proofs.lemmas.Bool.{cases_eq, cases_lt}
use Rattle.auction.specs.Bids.{Some, less, all, Bid, Bids, no_bid, best, with_some, given, choice, without, taken, pays}
use Rattle.auction.specs.Promise.{raised, RaisingKeeps}
use Rattle.auction.specs.Laws.{RaisingKeepsPlace}
use Rattle.auction.proofs.OneBidder.{fits, with_bid, some_ge, Got}
use Rattle.auction.proofs.Choice.{choice_bound}
use Rattle.auction.proofs.Best.{taken_got, pays_is}
use Rattle.auction.proofs.Truth.{without_set}

-- only the raised bid is another, and it keeps its pieces
raised_else : (bs : Bids) (j x c : ℕ) → c ≢ suc j → given (raised bs j x) c ≡ given bs c
unfolding raised given
raised_else bs j x zero d = refl
raised_else bs j x (suc k) d = get_or-set_other bs j k _ no_bid (λ e. d (ap suc e))

raised_there : (bs : Bids) (j x : ℕ) → j < length bs →
    given (raised bs j x) (suc j) ≡ record { on = (get_or bs j no_bid).on; price = (get_or bs j no_bid).price + x }
unfolding raised given
raised_there bs j x l = get_or-set_same bs j _ no_bid l

raised_by_nothing : (bs : Bids) (j : ℕ) → raised bs j 0 ≡ bs
unfolding raised
raised_by_nothing bs j =
    ap (λ (n : ℕ). set bs j (record { on = (get_or bs j no_bid).on; price = n })) (add-zero (get_or bs j no_bid).price) ∙ set-get_or bs j no_bid

-- where the bid at the place j is the best of a bidder's, no other is so good once that one is raised
only-raised : (bs : Bids) (j x c : ℕ) (free : Some) (f : Some → ℕ) → Got free f bs (suc j) → Got free f (raised bs j (suc x)) c → c ≡ suc j
unfolding given
only-raised bs j x c free f (l, v, e) (m, w, k) = go (cases_eq c (suc j))
  where
    more : Bids
    more = raised bs j (suc x)

    up : Bid
    up = record { on = (get_or bs j no_bid).on; price = (get_or bs j no_bid).price + suc x }

    above : with_bid up free f ≤ with_some more free f
    above =
        subst (λ (b : Bid). with_bid b free f ≤ with_some more free f) (raised_there bs j (suc x) l)
        (some_ge free f more (suc j) (subst (λ (b : Bid). fits b free ≡ true) (sym (raised_there bs j (suc x) l)) v))

    below : c ≢ suc j → with_some more free f ≤ with_some bs free f
    below d =
        let same : given more c ≡ given bs c = raised_else bs j (suc x) c d in
        let come : with_bid (given bs c) free f ≡ with_some more free f = subst (λ (b : Bid). with_bid b free f ≡ with_some more free f) same k in
        omega (arith, some_ge free f bs c (subst (λ (b : Bid). fits b free ≡ true) same w))

    go : (c ≡ suc j) ⊎ (c ≡ suc j → ⊥) → c ≡ suc j
    go (inl s) = s
    go (inr d) = absurd (omega (arith, above, below d))

-- the choices of two lists of bids that differ in one bidder's, of which the second are the first raised at the place j
place_kept : (bss more : List Bids) (i j x : ℕ) (free : Some) → without more i ≡ without bss i → get_or more i [] ≡ raised (get_or bss i []) j (suc x) →
    get_or (choice bss free) i 0 ≡ suc j → get_or (choice more free) i 0 ≡ suc j
place_kept bss more i j x free same there e =
    let P : List Bids → Type 0 = λ others. Got free (best others) (get_or more i []) (get_or (choice more free) i 0) in
    let Q : Bids → Type 0 = λ bs. Got free (best (without bss i)) bs (get_or (choice more free) i 0) in
    let R : ℕ → Type 0 = λ c. Got free (best (without bss i)) (get_or bss i []) c in
    only-raised (get_or bss i []) j x (get_or (choice more free) i 0) free (best (without bss i))
    (subst R e (taken_got bss free i))
    (subst Q there (subst P same (taken_got more free i)))

-- who is given a bid is one of the bidders
bidder_there : (bss : List Bids) (i j : ℕ) (free : Some) → get_or (choice bss free) i 0 ≡ suc j → i < length bss
bidder_there bss i j free e = go (cases_lt i (length bss))
  where
    go : (i < length bss) ⊎ (length bss ≤ i) → i < length bss
    go (inl l) = l
    go (inr past) = absurd (omega (arith, choice_bound bss i free, ap (λ (bs : Bids). length bs) (get_or_past bss i [] past)))

raising_place : (bss : List Bids) (i j x : ℕ) (free : Some) → get_or (choice bss free) i 0 ≡ suc j →
    get_or (choice (set bss i (raised (get_or bss i []) j x)) free) i 0 ≡ suc j
raising_place bss i j zero free e =
    ap (λ (xs : List Bids). get_or (choice xs free) i 0) (ap (set bss i) (raised_by_nothing (get_or bss i []) j) ∙ set-get_or bss i []) ∙ e
raising_place bss i j (suc x) free e =
    place_kept bss (set bss i (raised (get_or bss i []) j (suc x))) i j x free (without_set bss i _) (get_or-set_same bss i _ [] (bidder_there bss i j free e)) e

pub raising_keeps_place : RaisingKeepsPlace
unfolding RaisingKeepsPlace
raising_keeps_place = raising_place

-- the payment hangs on the others' bids and on the pieces that are got, and on nothing else
pub pays_by_pieces : (bss more : List Bids) (i : ℕ) (free : Some) → without more i ≡ without bss i → (taken more free i).on ≡ (taken bss free i).on →
    pays more free i ≡ pays bss free i
pays_by_pieces bss more i free same on =
    let left : best (without more i) (less free (taken more free i).on) ≡ best (without bss i) (less free (taken bss free i).on) =
    ap₂ (λ (xs : List Bids) (s : Some). best xs (less free s)) same on in
    let alone : best (without more i) free ≡ best (without bss i) free = ap (λ (xs : List Bids). best xs free) same in
    omega (arith, pays_is bss free i, pays_is more free i)

raising_pieces : (bss : List Bids) (i j x : ℕ) (free : Some) → get_or (choice bss free) i 0 ≡ suc j →
    (taken (set bss i (raised (get_or bss i []) j x)) free i).on ≡ (taken bss free i).on
unfolding given
raising_pieces bss i j x free e =
    let bs : Bids = get_or bss i [] in
    let room : suc j ≤ length bs = subst (λ (c : ℕ). c ≤ length bs) e (taken_got bss free i).0 in
    ap₂ (λ (ds : Bids) (c : ℕ). (given ds c).on) (get_or-set_same bss i (raised bs j x) [] (bidder_there bss i j free e)) (raising_place bss i j x free e)
    ∙ ap (λ (b : Bid). b.on) (raised_there bs j x room)
    ∙ ap (λ (c : ℕ). (given bs c).on) (sym e)

-- `i < length bss` and `prices_fine` are not used: who is given a bid is a bidder, and its place is kept whatever the prices are
pub raising_keeps : RaisingKeeps
unfolding RaisingKeeps
raising_keeps = λ bss i j x n _ _ e.
    let on = raising_pieces bss i j x (all n) e in
    (on, pays_by_pieces bss (set bss i (raised (get_or bss i []) j x)) i (all n) (without_set bss i _) on)
