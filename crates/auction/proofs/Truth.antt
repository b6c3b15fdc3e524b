-- Nobody gains by bidding anything but the truth. What a bidder has by its bids and what the others have is at most the best of all with its true bids;
-- the payment leaves it exactly that, less what the others could have had without it, on which its own bids have no bearing.
-- Assumes nothing.
use Rattle.std.proofs.Common.{◌≡◌, ℕ, zero, suc, ◌+◌, ◌<◌, ◌≤◌, true, List, [], ◌∷◌, length, get_or, set, sym, refl, ap, ◌∙◌, subst, arith}
use Rattle.std.proofs.lemmas.List.{get_or-set_same}
use Rattle.auction.specs.Bids.{Some, within, less, all, Bid, Bids, best, with_some, given, choice, without}
use Rattle.auction.specs.Promise.{worth, TruthIsBest}
use Rattle.auction.specs.Laws.{BestWay, got_by, clarke, NoTieRuleRewardsLying}
use Rattle.auction.proofs.Sets.{within_refl, within_trans, less_anti}
use Rattle.auction.proofs.OneBidder.{with_bid, some_ge}
use Rattle.auction.proofs.Best.{best_mono, best_apart, way_fits, way_comes, clarke_is, choice-best}
use Rattle.auction.proofs.Payments.{worth_ge, worth_got, Says}

-- what a bidder bids has no bearing on what the others bid
pub without_set : (bss : List Bids) (i : ℕ) (bs : Bids) → without (set bss i bs) i ≡ without bss i
unfolding without
without_set [] i bs = refl
without_set (ds ∷ bss) zero bs = refl
without_set (ds ∷ bss) (suc i) bs = ap (λ (xs : List Bids). ds ∷ xs) (without_set bss i bs)

-- no pieces are worth so much to a bidder with the others' best of what is left that it is more than the best of all
worth_below : (truth : Bids) (free s : Some) (f : Some → ℕ) → ((x y : Some) → within x y ≡ true → f x ≤ f y) → within s free ≡ true →
    worth truth s + f (less free s) ≤ with_some truth free f
worth_below truth free s f up v = go (worth_got truth s)
  where
    go : (c : ℕ) × Says truth s (worth truth s) c → worth truth s + f (less free s) ≤ with_some truth free f
    go (c, (w, e)) =
        let b : Bid = given truth c in
        let most : with_bid b free f ≤ with_some truth free f = some_ge free f truth c (within_trans b.on s free w v) in
        let more : f (less free s) ≤ f (less free b.on) = up (less free s) (less free b.on) (less_anti free b.on s w) in
        omega arith

-- the pieces that the truth gets are at least as good as any others, once the others' loss is counted
truth_beats : (bss : List Bids) (i : ℕ) (free s : Some) (cs : List ℕ) → BestWay bss free cs → within s free ≡ true →
    let t : Some = (got_by bss cs i).on in
    worth (get_or bss i []) s + best (without bss i) (less free s) ≤ worth (get_or bss i []) t + best (without bss i) (less free t)
truth_beats bss i free s cs way w =
    let truth : Bids = get_or bss i [] in
    omega (
      arith,
      worth_below truth free s (best (without bss i)) (best_mono (without bss i)) w,
      best_apart bss i free,
      way_comes bss free cs way i,
      worth_ge truth (get_or cs i 0) (got_by bss cs i).on (within_refl (got_by bss cs i).on),
    )

-- two lists of bids that differ at most in one bidder's, of which the first are its true ones
pub truth_for : (honest other : List Bids) (i : ℕ) (free : Some) (truth : Bids) (cs ds : List ℕ) → get_or honest i [] ≡ truth → without other i ≡ without honest i →
    BestWay honest free cs → BestWay other free ds →
    worth truth (got_by other ds i).on + clarke honest free cs i ≤ worth truth (got_by honest cs i).on + clarke other free ds i
truth_for honest other i free truth cs ds true-there same way way-other =
    let s : Some = (got_by other ds i).on in
    let t : Some = (got_by honest cs i).on in
    let others : Some → ℕ = best (without honest i) in
    let P : Bids → Type 0 = λ bs. worth bs s + others (less free s) ≤ worth bs t + others (less free t) in
    let beats : P truth = subst P true-there (truth_beats honest i free s cs way (way_fits other free ds way-other i)) in
    let left : best (without other i) (less free s) ≡ others (less free s) = ap (λ (bss : List Bids). best bss (less free s)) same in
    let alone : best (without other i) free ≡ others free = ap (λ (bss : List Bids). best bss free) same in
    omega (arith, clarke_is honest free cs way i, clarke_is other free ds way-other i)

truth_whatever_ties : (bss : List Bids) (i : ℕ) (free : Some) (truth lie : Bids) (cs ds : List ℕ) → i < length bss →
    let honest : List Bids = set bss i truth in
    let other : List Bids = set bss i lie in
    BestWay honest free cs → BestWay other free ds →
    worth truth (got_by other ds i).on + clarke honest free cs i ≤ worth truth (got_by honest cs i).on + clarke other free ds i
truth_whatever_ties bss i free truth lie cs ds l =
    truth_for (set bss i truth) (set bss i lie) i free truth cs ds (get_or-set_same bss i truth [] l) (without_set bss i lie ∙ sym (without_set bss i truth))

pub no_tie_rule_rewards_lying : NoTieRuleRewardsLying
unfolding NoTieRuleRewardsLying
no_tie_rule_rewards_lying = truth_whatever_ties

-- the house's own rule for ties is one of them
pub truth_is_best : TruthIsBest
unfolding TruthIsBest
truth_is_best = λ bss i n truth lie l.
    let honest : List Bids = set bss i truth in
    let other : List Bids = set bss i lie in
    truth_whatever_ties bss i (all n) truth lie (choice honest (all n)) (choice other (all n)) l (choice-best honest (all n)) (choice-best other (all n))
