-- Laws of the house: closed lots stay, lots stand by themselves, the last bids count, and what is turned away changes nothing.
-- Assumes nothing.
use Rattle.std.proofs.Common.{◌≡◌, ℕ, zero, suc, ◌<◌, ◌≤◌, Bool, true, false, ltb, ◌≢◌, ◌⊎◌, List, [], ◌∷◌, length, get_or, set, sym, refl, ap, ◌∙◌, inl, inr, arith}
use Rattle.std.proofs.lemmas.List.{get_or-set_same, get_or-set_other, get_or_append_left, set-set, length-set}
use Rattle.std.proofs.lemmas.Bool.{cases_eq, ltb-true, ne_eqb, eq-eqb}
use Rattle.auction.specs.Bids.{pick, Bids}
use Rattle.auction.specs.House.{Call, opens, bids, ticks, my_bids, result, brings, lot_is, garbled, Limits, Lot, House, the_lot, all_in, good_call, turned_by, turned}
use Rattle.auction.specs.House.{changed, after, answers}
use Rattle.auction.specs.Promise.{ClosedStays, LotsApart, LastCounts, TurnedAway}

pub after-taken : (l : Limits) (h : House) (c : Call) → turned l h c ≡ 0 → after l h c ≡ changed l h c
after-taken l h c e = ap {B = House} (λ (t : Bool). pick t (changed l h c) h) (eq-eqb (turned l h c) 0 e)

pub after_refused : (l : Limits) (h : House) (c : Call) → (turned l h c ≡ 0 → ⊥) → after l h c ≡ h
after_refused l h c n = ap {B = House} (λ (t : Bool). pick t (changed l h c) h) (ne_eqb (turned l h c) 0 n)

-- a call is taken, and the house is changed by it, or it is turned away, and the house is as it was
pub after_either : (l : Limits) (h : House) (c : Call) → ((turned l h c ≡ 0) × (after l h c ≡ changed l h c)) ⊎ (after l h c ≡ h)
after_either l h c = go (cases_eq (turned l h c) 0)
  where
    go : (turned l h c ≡ 0) ⊎ (turned l h c ≡ 0 → ⊥) → ((turned l h c ≡ 0) × (after l h c ≡ changed l h c)) ⊎ (after l h c ≡ h)
    go (inl e) = inl (e, after-taken l h c e)
    go (inr n) = inr (after_refused l h c n)

-- a check that is passed: the test holds, and so what comes after it is 0
pub pick_zero : (t : Bool) (m n : ℕ) → pick t m (suc n) ≡ 0 → (t ≡ true) × (m ≡ 0)
pick_zero true m n e = (refl, e)
pick_zero false m n e = absurd (omega arith)

-- what the checks of bids that are taken say
pub bids-taken : (l : Limits) (h : House) (k b : ℕ) (bs : Bids) → turned l h (bids k b bs) ≡ 0 →
    (k < length h.lots) × (h.now < (the_lot h k).until) × (all_in bs (the_lot h k).pieces ≡ true)
bids-taken l h k b bs e =
    let asked = pick_zero (good_call l (bids k b bs)) _ _ e in
    let there = pick_zero (ltb k (length h.lots)) _ _ asked.1 in
    let open-yet = pick_zero (ltb h.now (the_lot h k).until) _ _ there.1 in
    let inside = pick_zero (all_in bs (the_lot h k).pieces) _ _ open-yet.1 in
    (ltb-true _ _ there.0, ltb-true _ _ open-yet.0, inside.0)

closed_bids : (l : Limits) (h : House) (j b k : ℕ) (bs : Bids) → (the_lot h k).until ≤ h.now → turned l h (bids j b bs) ≡ 0 → k ≢ j
closed_bids l h j b k bs w e s =
    let same : (the_lot h k).until ≡ (the_lot h j).until = ap (λ (n : ℕ). (the_lot h n).until) s in
    omega (arith, (bids-taken l h j b bs e).1)

closed_changed : (l : Limits) (h : House) (c : Call) (k : ℕ) → k < length h.lots → (the_lot h k).until ≤ h.now → turned l h c ≡ 0 →
    the_lot (changed l h c) k ≡ the_lot h k
closed_changed l h (opens n t) k m w e = get_or_append_left h.lots _ _ k m
closed_changed l h (bids j b bs) k m w e = get_or-set_other h.lots j k _ _ (closed_bids l h j b k bs w e)
closed_changed l h (ticks n) k m w e = refl
closed_changed l h (my_bids j b) k m w e = refl
closed_changed l h (result j b) k m w e = refl
closed_changed l h (brings j) k m w e = refl
closed_changed l h (lot_is j) k m w e = refl
closed_changed l h (garbled n) k m w e = refl

pub closed_kept : (l : Limits) (h : House) (c : Call) (k : ℕ) → k < length h.lots → (the_lot h k).until ≤ h.now → the_lot (after l h c) k ≡ the_lot h k
closed_kept l h c k m w = go (after_either l h c)
  where
    go : ((turned l h c ≡ 0) × (after l h c ≡ changed l h c)) ⊎ (after l h c ≡ h) → the_lot (after l h c) k ≡ the_lot h k
    go (inl (e, t)) = ap (λ (g : House). the_lot g k) t ∙ closed_changed l h c k m w e
    go (inr t) = ap (λ (g : House). the_lot g k) t

pub closed_stays : ClosedStays
unfolding ClosedStays
closed_stays = closed_kept

pub lots_apart : LotsApart
unfolding LotsApart
lots_apart = λ l h j b k bs d. go l h j b k bs d (after_either l h (bids j b bs))
  where
    go : (l : Limits) (h : House) (j b k : ℕ) (bs : Bids) → j ≢ k →
        ((turned l h (bids j b bs) ≡ 0) × (after l h (bids j b bs) ≡ changed l h (bids j b bs))) ⊎ (after l h (bids j b bs) ≡ h) →
        the_lot (after l h (bids j b bs)) k ≡ the_lot h k
    go l h j b k bs d (inl (e, t)) = ap (λ (g : House). the_lot g k) t ∙ get_or-set_other h.lots j k _ _ (λ s. d (sym s))
    go l h j b k bs d (inr t) = ap (λ (g : House). the_lot g k) t

-- houses in which the lots have the same pieces and times: the same calls are turned away, whatever is bid
pub record Like (h g : House) : Type 0 where
  pub now : h.now ≡ g.now
  pub count : length h.lots ≡ length g.lots
  pub pieces : (k : ℕ) → (the_lot h k).pieces ≡ (the_lot g k).pieces
  pub until : (k : ℕ) → (the_lot h k).until ≡ (the_lot g k).until

turned_by_like : (l : Limits) (h g : House) (c : Call) → Like h g → turned_by l h c ≡ turned_by l g c
turned_by_like l h g (opens n t) s = cc (s.now, s.count)
turned_by_like l h g (bids k b bs) s = cc (s.now, s.count, s.pieces k, s.until k)
turned_by_like l h g (ticks n) s = cc s.now
turned_by_like l h g (my_bids k b) s = cc s.count
turned_by_like l h g (result k b) s = cc (s.now, s.count, s.until k)
turned_by_like l h g (brings k) s = cc (s.now, s.count, s.until k)
turned_by_like l h g (lot_is k) s = cc s.count
turned_by_like l h g (garbled n) s = refl

pub turned_like : (l : Limits) (h g : House) (c : Call) → Like h g → turned l h c ≡ turned l g c
turned_like l h g c s = ap (λ (n : ℕ). pick (good_call l c) n 2) (turned_by_like l h g c s)

-- what a change at one place keeps there, it keeps at every place
pub set_keeps : {A B : Type 0} (f : A → B) (xs : List A) (k i : ℕ) (v d : A) → f v ≡ f (get_or xs k d) → f (get_or (set xs k v) i d) ≡ f (get_or xs i d)
set_keeps f [] k i v d e = refl
set_keeps f (x ∷ xs) zero zero v d e = e
set_keeps f (x ∷ xs) zero (suc i) v d e = refl
set_keeps f (x ∷ xs) (suc k) zero v d e = refl
set_keeps f (x ∷ xs) (suc k) (suc i) v d e = set_keeps f xs k i v d e

bids_like : (l : Limits) (h : House) (k b : ℕ) (bs : Bids) → Like (changed l h (bids k b bs)) h
bids_like l h k b bs = record {
  now = refl;
  count = length-set h.lots k _;
  pieces = λ i. set_keeps (λ (o : Lot). o.pieces) h.lots k i _ _ refl;
  until = λ i. set_keeps (λ (o : Lot). o.until) h.lots k i _ _ refl;
}

-- a lot with the bids of one bidder in place of those before
abbrev pub put : ℕ → Bids → Lot → Lot
put b bs o = record { pieces = o.pieces; until = o.until; made = set o.made b bs }

put-put : (b : ℕ) (xs ys : Bids) (o : Lot) → put b ys (put b xs o) ≡ put b ys o
put-put b xs ys o = ap {B = Lot} (λ (m : List Bids). record { pieces = o.pieces; until = o.until; made = m }) (set-set o.made b xs ys)

bids_twice : (l : Limits) (h : House) (k b : ℕ) (xs ys : Bids) → k < length h.lots →
    changed l (changed l h (bids k b xs)) (bids k b ys) ≡ changed l h (bids k b ys)
bids_twice l h k b xs ys m =
    let o : Lot = the_lot h k in
    let first : List Lot = set h.lots k (put b xs o) in
    let there : get_or first k _ ≡ put b xs o = get_or-set_same h.lots k (put b xs o) _ m in
    ap {B = House} (λ (lots : List Lot). record { now = h.now; lots = lots })
    (ap (λ (p : Lot). set first k (put b ys p)) there ∙ ap (set first k) (put-put b xs ys o) ∙ set-set h.lots k (put b xs o) (put b ys o))

pub last_counts : LastCounts
unfolding LastCounts
last_counts = λ l h k b xs ys e f.
    let once : House = changed l h (bids k b xs) in
    ap (λ (g : House). after l g (bids k b ys)) (after-taken l h (bids k b xs) e)
    ∙ after-taken l once (bids k b ys) (turned_like l once h (bids k b ys) (bids_like l h k b xs) ∙ f)
    ∙ bids_twice l h k b xs ys (bids-taken l h k b xs e).0
    ∙ sym (after-taken l h (bids k b ys) f)

pub turned_away : TurnedAway
unfolding TurnedAway
turned_away = λ l h c cs n. ap (λ (g : House). answers l g cs) (after_refused l h c (λ e. omega arith))
