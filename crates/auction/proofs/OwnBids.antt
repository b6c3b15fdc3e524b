-- Truthfulness over calls. A house is looked at with one bidder's bids on one lot left out: its own bids there are not seen, and every other call is. So two lists of calls that differ only in these
-- lead to lots on which all others have bid the same.
-- Assumes nothing.
use Rattle.std.proofs.Common.{◌≡◌, ℕ, zero, suc, Bool, true, false, eqb, ◌≢◌, ◌⊎◌, List, [], ◌∷◌, set, sym, refl, ap, ◌∙◌, subst, inl, inr, arith}
use Rattle.std.proofs.lemmas.Bool.{and_parts, and_cases, eqb-true, eqb-false, false≢true}
use Rattle.auction.specs.Bids.{pick, Some, all, Bid, Bids, given, choice, without, taken, pays}
use Rattle.auction.specs.House.{Call, opens, bids, ticks, my_bids, result, brings, lot_is, garbled, Limits, Lot, House, the_lot, nobody, after, ran, new_house}
use Rattle.auction.specs.Promise.{worth}
use Rattle.auction.specs.Answers.{own_bids, but_own, NoGain, TruthInCalls}
use Rattle.auction.proofs.Best.{choice-best}
use Rattle.auction.proofs.Truth.{without_set, truth_for}
use Rattle.auction.proofs.Veils.{hide, hide_like, hide_here, Through, hide-after, hide_unseen}
use Rattle.auction.proofs.Answered.{Reads, reads}

-- all bids but one bidder's
abbrev others : ℕ → List Bids → List Bids
others b m = without m b

others-nobody : (b n : ℕ) → others b (nobody n) ≡ nobody n
unfolding without nobody
others-nobody b zero = refl
others-nobody zero (suc n) = refl
others-nobody (suc b) (suc n) = ap (λ (m : List Bids). [] ∷ m) (others-nobody b n)

others_set : (b c : ℕ) (bs : Bids) (m : List Bids) → c ≢ b → others b (set m c bs) ≡ set (others b m) c bs
unfolding without
others_set b c bs [] d = refl
others_set zero zero bs (x ∷ m) d = absurd (d refl)
others_set zero (suc c) bs (x ∷ m) d = refl
others_set (suc b) zero bs (x ∷ m) d = refl
others_set (suc b) (suc c) bs (x ∷ m) d = ap (λ (xs : List Bids). x ∷ xs) (others_set b c bs m (λ e. d (ap suc e)))

-- a call that is not its own bids on the lot
own_not : (k b : ℕ) (c : Call) → own_bids k b c ≡ false → Through (others b) k c
unfolding own_bids
own_not k b c f = λ j d bs is here m. others_set b d bs m (go j d here (and_cases (eqb j k) (eqb d b) (ap (own_bids k b) (sym is) ∙ f)))
  where
    go : (j d : ℕ) → j ≡ k → (eqb j k ≡ false) ⊎ (eqb d b ≡ false) → d ≢ b
    go j d here (inl n) = absurd (eqb-false j k n here)
    go j d here (inr n) = eqb-false d b n

hide_own : (l : Limits) (h : House) (k b : ℕ) (c : Call) → own_bids k b c ≡ true → hide (others b) k (after l h c) ≡ hide (others b) k h
unfolding own_bids
hide_own l h k b (bids j d bs) t =
    let p = and_parts (eqb j k) (eqb d b) t in
    hide_unseen (others b) l h k j d bs (eqb-true j k p.0) (λ m. subst (λ (i : ℕ). without (set m d bs) i ≡ without m i) (eqb-true d b p.1) (without_set m d bs))
hide_own l h k b (opens n t) f = absurd (false≢true f)
hide_own l h k b (ticks n) f = absurd (false≢true f)
hide_own l h k b (my_bids j d) f = absurd (false≢true f)
hide_own l h k b (result j d) f = absurd (false≢true f)
hide_own l h k b (brings j) f = absurd (false≢true f)
hide_own l h k b (lot_is j) f = absurd (false≢true f)
hide_own l h k b (garbled n) f = absurd (false≢true f)

hide-ran : (l : Limits) (cs : List Call) (h : House) (k b : ℕ) → hide (others b) k (ran l h cs) ≡ ran l (hide (others b) k h) (but_own k b cs)
unfolding ran but_own
hide-ran l [] h k b = refl
hide-ran l (c ∷ cs) h k b = hide-ran l cs (after l h c) k b ∙ go (own_bids k b c) refl
  where
    rest : List Call
    rest = but_own k b cs

    go : (t : Bool) → own_bids k b c ≡ t → ran l (hide (others b) k (after l h c)) rest ≡ ran l (hide (others b) k h) (pick t rest (c ∷ rest))
    go true e = ap {B = House} (λ (g : House). ran l g rest) (hide_own l h k b c e)
    go false e = ap {B = House} (λ (g : House). ran l g rest) (hide-after (others b) l h k c (others-nobody b) (own_not k b c e))

-- two lists of calls that differ only in the bidder's own bids on the lot
same_others : (l : Limits) (cs ds : List Call) (k b : ℕ) → but_own k b cs ≡ but_own k b ds → hide (others b) k (ran l new_house cs) ≡ hide (others b) k (ran l new_house ds)
same_others l cs ds k b e = hide-ran l cs new_house k b ∙ ap {B = House} (λ (es : List Call). ran l (hide (others b) k new_house) es) e ∙ sym (hide-ran l ds new_house k b)

-- what is read on two lots of as many pieces, on which the others have bid the same
no_gain : (o u : Lot) (b c p d q : ℕ) (truth lie : Bids) → o.pieces ≡ u.pieces → others b u.made ≡ others b o.made → Reads o b truth c p → Reads u b lie d q → NoGain truth lie c p d q
no_gain o u b c p d q truth lie as_many same honest other =
    let free : Some = all o.pieces in
    let got : taken u.made free b ≡ given lie d = cc (as_many, other.own, other.taken) in
    let paid : pays u.made free b ≡ q = cc (as_many, other.paid) in
    let due : taken o.made free b ≡ given truth c = cc (honest.own, honest.taken) in
    let beats = truth_for o.made u.made b free truth (choice o.made free) (choice u.made free) honest.own same (choice-best o.made free) (choice-best u.made free) in
    let lied : worth truth (taken u.made free b).on ≡ worth truth (given lie d).on = ap (λ (x : Bid). worth truth x.on) got in
    let told-true : worth truth (taken o.made free b).on ≡ worth truth (given truth c).on = ap (λ (x : Bid). worth truth x.on) due in
    omega (arith, beats, honest.paid)

pub truth_in_calls : TruthInCalls
unfolding TruthInCalls without
truth_in_calls = λ l cs ds k b c p d q truth lie same mine mine-then got got-then.
    let h : House = ran l new_house cs in
    let g : House = ran l new_house ds in
    let alike = same_others l cs ds k b same in
    no_gain (the_lot h k) (the_lot g k) b c p d q truth lie
    (sym ((hide_like (others b) k h).pieces k) ∙ ap (λ (x : House). (the_lot x k).pieces) alike ∙ (hide_like (others b) k g).pieces k)
    (sym (hide_here (others b) k g refl) ∙ ap (λ (x : House). (the_lot x k).made) (sym alike) ∙ hide_here (others b) k h refl)
    (reads l h k b c p truth mine got) (reads l g k b d q lie mine-then got-then)
