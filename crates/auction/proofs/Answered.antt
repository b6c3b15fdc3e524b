-- What an answer tells: a call that is not refused is told of the house. From this, what a bidder reads of its result is what it got and pays.
-- Assumes nothing.
use Rattle.std.proofs.Common.{◌≡◌, ℕ, Bool, true, false, eqb, ◌≢◌, List, [], get_or, sym, subst, arith}
use Rattle.auction.specs.Bids.{pick, all, Bids, choice, pays}
use Rattle.auction.specs.House.{Call, opens, bids, ticks, my_bids, result, brings, lot_is, garbled, Answer, refused, number, two, list, Limits, Lot, House, the_lot, turned, place, told, answer}
use Rattle.auction.specs.Answers.{Fair, FairResults}
use Rattle.auction.proofs.Payments.{pays_below, nothing_got, worth-taken}

number_tells : (x n p : ℕ) → number x ≢ refused n p
number_tells x n p e = let z : ◌≡◌ {A = ℕ} 0 1 = cc in omega arith

two_tell : (x y n p : ℕ) → two x y ≢ refused n p
two_tell x y n p e = let z : ◌≡◌ {A = ℕ} 0 1 = cc in omega arith

list_tells : (bs : Bids) (n p : ℕ) → list bs ≢ refused n p
list_tells bs n p e = let z : ◌≡◌ {A = ℕ} 0 1 = cc in omega arith

-- what is told of the house is never a refusal
pub told_tells : (h : House) (c : Call) (n p : ℕ) → told h c ≢ refused n p
told_tells h (opens x t) n p = number_tells _ n p
told_tells h (bids k b bs) n p = number_tells _ n p
told_tells h (ticks x) n p = number_tells _ n p
told_tells h (my_bids k b) n p = list_tells _ n p
told_tells h (result k b) n p = two_tell _ _ n p
told_tells h (brings k) n p = two_tell _ _ n p
told_tells h (lot_is k) n p = two_tell _ _ n p
told_tells h (garbled x) n p = number_tells _ n p

-- an answer that is no refusal was told of the house
not_refused : (l : Limits) (h : House) (c : Call) (a : Answer) → ((n p : ℕ) → a ≢ refused n p) → answer l h c ≡ a → told h c ≡ a
not_refused l h c a tells = go (eqb (turned l h c) 0)
  where
    go : (t : Bool) → pick t (told h c) (refused (turned l h c) (place c (turned l h c))) ≡ a → told h c ≡ a
    go true e = e
    go false e = absurd (tells _ _ (sym e))

-- what a bidder reads on a lot: its bids, the one taken, and the payment
pub record Reads (o : Lot) (b : ℕ) (bs : Bids) (c p : ℕ) : Type 0 where
  pub own : get_or o.made b [] ≡ bs
  pub taken : get_or (choice o.made (all o.pieces)) b 0 ≡ c
  pub paid : pays o.made (all o.pieces) b ≡ p

pub reads : (l : Limits) (h : House) (k b c p : ℕ) (bs : Bids) → answer l h (my_bids k b) ≡ list bs → answer l h (result k b) ≡ two c p → Reads (the_lot h k) b bs c p
reads l h k b c p bs mine got =
    let listed = not_refused l h (my_bids k b) (list bs) (list_tells bs) mine in
    let settled = not_refused l h (result k b) (two c p) (two_tell c p) got in
    record { own = cc; taken = cc; paid = cc }

fair : (o : Lot) (b c p : ℕ) (bs : Bids) → Reads o b bs c p → Fair bs c p
fair o b c p bs r =
    let m : List Bids = o.made in
    let n : ℕ = o.pieces in
    let own : Fair (get_or m b []) (get_or (choice m (all n)) b 0) (pays m (all n) b) = (pays_below m (all n) b, nothing_got m (all n) b, worth-taken m (all n) b) in
    subst (λ (x : Bids). Fair x c p) r.own (subst (λ (x : ℕ). Fair (get_or m b []) x p) r.taken (subst (λ (x : ℕ). Fair (get_or m b []) (get_or (choice m (all n)) b 0) x) r.paid own))

pub fair_results : FairResults
unfolding FairResults
fair_results = λ l h k b c p bs mine got. fair (the_lot h k) b c p bs (reads l h k b c p bs mine got)
