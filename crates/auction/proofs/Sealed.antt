-- Bids are sealed. Beside the house stands the one in which on the lot k nobody but b has bid: the others' calls there leave it as it is, every other call changes both alike,
-- and as long as the lot is open no answer tells the two apart. So the answers are those of the calls without the others'.
-- Assumes nothing.
use Rattle.std.proofs.Common.{◌≡◌, ℕ, zero, suc, ◌<◌, ◌≤◌, Bool, true, false, not, ◌&&◌, eqb, ltb, leb, ◌≢◌, ◌⊎◌, List, [], ◌∷◌, ◌++◌, length, get_or, set, sym, refl, ap, ◌∙◌, subst, ap₂, inl, inr, le_trans, arith}
use Rattle.std.proofs.lemmas.List.{length-set, length-append}
use Rattle.std.proofs.lemmas.Bool.{cases_eq, ltb-true, leb-true, eqb-true, eqb-false, and_parts, and_cases, not-true, not-false, false≢true}
use Rattle.auction.specs.Bids.{pick, all, Bids, choice, best, pays}
use Rattle.auction.specs.House.{Call, opens, bids, ticks, my_bids, result, brings, lot_is, garbled, Answer, refused, number, two, list, Limits, Lot, House, the_lot}
use Rattle.auction.specs.House.{nobody, paid_by, good_call, turned, place, changed, after, told, answer, answers, ran, new_house}
use Rattle.auction.specs.Promise.{others_on, but_others, answers_but, Sealed}
use Rattle.auction.proofs.HouseLaws.{turned_like, pick_zero, closed_kept}
use Rattle.auction.proofs.Veils.{hide, hide_like, hide_other, hide_keeps, hide_new, Through, hide-after, hide_unseen}

-- only one bidder's bids
alone : ℕ → List Bids → List Bids
alone b [] = []
alone zero (bs ∷ bss) = bs ∷ nobody (length bss)
alone (suc b) (bs ∷ bss) = [] ∷ alone b bss

length-nobody : (n : ℕ) → length (nobody n) ≡ n
unfolding nobody
length-nobody zero = refl
length-nobody (suc n) = ap suc (length-nobody n)

alone-nobody : (b n : ℕ) → alone b (nobody n) ≡ nobody n
unfolding alone nobody
alone-nobody b zero = refl
alone-nobody zero (suc n) = ap (λ (m : ℕ). [] ∷ nobody m) (length-nobody n)
alone-nobody (suc b) (suc n) = ap (λ (bss : List Bids). [] ∷ bss) (alone-nobody b n)

alone_own : (b : ℕ) (bss : List Bids) → get_or (alone b bss) b [] ≡ get_or bss b []
unfolding alone
alone_own b [] = refl
alone_own zero (bs ∷ bss) = refl
alone_own (suc b) (bs ∷ bss) = alone_own b bss

alone_set_own : (b : ℕ) (bss : List Bids) (x : Bids) → alone b (set bss b x) ≡ set (alone b bss) b x
unfolding alone
alone_set_own b [] x = refl
alone_set_own zero (bs ∷ bss) x = refl
alone_set_own (suc b) (bs ∷ bss) x = ap (λ (xs : List Bids). [] ∷ xs) (alone_set_own b bss x)

alone_set_other : (b c : ℕ) (bss : List Bids) (x : Bids) → c ≢ b → alone b (set bss c x) ≡ alone b bss
unfolding alone
alone_set_other b c [] x d = refl
alone_set_other zero zero (bs ∷ bss) x d = absurd (d refl)
alone_set_other zero (suc c) (bs ∷ bss) x d = ap (λ (n : ℕ). bs ∷ nobody n) (length-set bss c x)
alone_set_other (suc b) zero (bs ∷ bss) x d = refl
alone_set_other (suc b) (suc c) (bs ∷ bss) x d = ap (λ (xs : List Bids). [] ∷ xs) (alone_set_other b c bss x (λ e. d (ap suc e)))

-- a call that the others did not make on the lot: one on another lot, or its own
own_call : (j k c b : ℕ) → (eqb j k && not (eqb c b)) ≡ false → j ≡ k → c ≡ b
own_call j k c b f e = go (and_cases (eqb j k) (not (eqb c b)) f)
  where
    go : (eqb j k ≡ false) ⊎ (not (eqb c b) ≡ false) → c ≡ b
    go (inl n) = absurd (eqb-false j k n e)
    go (inr o) = eqb-true c b (not-false (eqb c b) o)

other_call : (j k c b : ℕ) → (eqb j k && not (eqb c b)) ≡ true → (j ≡ k) × (c ≢ b)
other_call j k c b t =
    let p = and_parts (eqb j k) (not (eqb c b)) t in
    (eqb-true j k p.0, eqb-false c b (not-true (eqb c b) p.1))

-- all calls but the others' on the lot are seen behind the veil
others_not : (k b : ℕ) (c : Call) → others_on k b c ≡ false → Through (alone b) k c
unfolding others_on
others_not k b c f = λ j d bs is here m.
    let P : ℕ → Type 0 = λ i. alone b (set m i bs) ≡ set (alone b m) i bs in
    subst P (sym (own_call j k d b (ap (others_on k b) (sym is) ∙ f) here)) (alone_set_own b m bs)

hide-others : (l : Limits) (h : House) (k b : ℕ) (c : Call) → others_on k b c ≡ true → hide (alone b) k (after l h c) ≡ hide (alone b) k h
unfolding others_on
hide-others l h k b (opens n t) f = absurd (false≢true f)
hide-others l h k b (bids j c bs) f =
    let o = other_call j k c b f in
    hide_unseen (alone b) l h k j c bs o.0 (λ m. alone_set_other b c m bs o.1)
hide-others l h k b (ticks n) f = absurd (false≢true f)
hide-others l h k b (my_bids j c) f = go (eqb (turned l h (my_bids j c)) 0)
  where
    go : (t : Bool) → hide (alone b) k (pick t h h) ≡ hide (alone b) k h
    go true = refl
    go false = refl
hide-others l h k b (result j c) f = absurd (false≢true f)
hide-others l h k b (brings j) f = absurd (false≢true f)
hide-others l h k b (lot_is j) f = absurd (false≢true f)
hide-others l h k b (garbled n) f = absurd (false≢true f)

-- a lot that is there and over; it stays so
abbrev pub Closed : ℕ → House → Type 0
Closed k h = (k < length h.lots) × ((the_lot h k).until ≤ h.now)

changed_grows : (l : Limits) (h : House) (c : Call) → (h.now ≤ (changed l h c).now) × (length h.lots ≤ length (changed l h c).lots)
changed_grows l h (opens n t) = (omega arith, simp length-append (omega arith))
changed_grows l h (bids j c bs) = (omega arith, simp length-set (omega arith))
changed_grows l h (ticks n) = (omega arith, omega arith)
changed_grows l h (my_bids j c) = (omega arith, omega arith)
changed_grows l h (result j c) = (omega arith, omega arith)
changed_grows l h (brings j) = (omega arith, omega arith)
changed_grows l h (lot_is j) = (omega arith, omega arith)
changed_grows l h (garbled n) = (omega arith, omega arith)

after_grows : (l : Limits) (h : House) (c : Call) → (h.now ≤ (after l h c).now) × (length h.lots ≤ length (after l h c).lots)
after_grows l h c = go (eqb (turned l h c) 0)
  where
    go : (t : Bool) → (h.now ≤ (pick t (changed l h c) h).now) × (length h.lots ≤ length (pick t (changed l h c) h).lots)
    go true = changed_grows l h c
    go false = (omega arith, omega arith)

closed_after : (l : Limits) (h : House) (c : Call) (k : ℕ) → Closed k h → Closed k (after l h c)
closed_after l h c k (m, w) =
    let grows = after_grows l h c in
    let same : (the_lot (after l h c) k).until ≡ (the_lot h k).until = ap (λ (o : Lot). o.until) (closed_kept l h c k m w) in
    (le_trans m grows.1, subst (λ (n : ℕ). n ≤ (after l h c).now) (sym same) (le_trans w grows.0))

closed_ran : (l : Limits) (cs : List Call) (h : House) (k : ℕ) → Closed k h → Closed k (ran l h cs)
unfolding ran
closed_ran l [] h k w = w
closed_ran l (c ∷ cs) h k w = closed_ran l cs (after l h c) k (closed_after l h c k w)

-- what is told of a lot that is over asks that it is over
abbrev pub asks_over : House → Bool → ℕ → ℕ
asks_over h t k = pick t (pick (ltb k (length h.lots)) (pick (leb (the_lot h k).until h.now) 0 5) 4) 2

pub over_taken : (h : House) (t : Bool) (k : ℕ) → asks_over h t k ≡ 0 → Closed k h
over_taken h t k e =
    let asked = pick_zero t _ _ e in
    let there = pick_zero (ltb k (length h.lots)) _ _ asked.1 in
    let over = pick_zero (leb (the_lot h k).until h.now) _ _ there.1 in
    (ltb-true _ _ there.0, leb-true _ _ over.0)

-- no answer to a call that is taken tells the house from the hidden one, unless the lot is over
module _ (l : Limits) (h : House) (k b : ℕ) (open-yet : Closed k h → ⊥) where
  told_over : (j : ℕ) (t : Bool) (f : Lot → Answer) → asks_over h t j ≡ 0 → f (the_lot (hide (alone b) k h) j) ≡ f (the_lot h j)
  told_over j t f e = ap f (hide_other (alone b) k j h (λ s. open-yet (subst (λ (i : ℕ). Closed i h) s (over_taken h t j e))))

  told_mine : (j c : ℕ) → (eqb j k && not (eqb c b)) ≡ false → get_or (the_lot (hide (alone b) k h) j).made c [] ≡ get_or (the_lot h j).made c []
  told_mine j c f = go (cases_eq j k)
    where
      go : (j ≡ k) ⊎ (j ≡ k → ⊥) → get_or (the_lot (hide (alone b) k h) j).made c [] ≡ get_or (the_lot h j).made c []
      go (inl e) =
          let P : ℕ → Type 0 = λ d. get_or (the_lot (hide (alone b) k h) j).made d [] ≡ get_or (the_lot h j).made d [] in
          subst P (sym (own_call j k c b f e)) (hide_keeps (alone b) (λ (m : List Bids). get_or m b []) k j h (alone_own b))
      go (inr n) = ap (λ (o : Lot). get_or o.made c []) (hide_other (alone b) k j h n)

  told_hidden : (c : Call) → others_on k b c ≡ false → turned l h c ≡ 0 → told (hide (alone b) k h) c ≡ told h c
  unfolding others_on
  told_hidden (opens n t) f e = ap number (hide_like (alone b) k h).count
  told_hidden (bids j c bs) f e = refl
  told_hidden (ticks n) f e = refl
  told_hidden (my_bids j c) f e = ap list (told_mine j c f)
  told_hidden (result j c) f e =
      told_over j (good_call l (result j c)) (λ o. two (get_or (choice o.made (all o.pieces)) c 0) (pays o.made (all o.pieces) c)) e
  told_hidden (brings j) f e =
      told_over j (good_call l (brings j)) (λ o. two (best o.made (all o.pieces)) (paid_by (length o.made) o.made (all o.pieces))) e
  told_hidden (lot_is j) f e = ap₂ two ((hide_like (alone b) k h).pieces j) ((hide_like (alone b) k h).until j)
  told_hidden (garbled n) f e = refl

  answer_hidden : (c : Call) → others_on k b c ≡ false → answer l (hide (alone b) k h) c ≡ answer l h c
  answer_hidden c f =
      ap {B = Answer} (λ (n : ℕ). pick (eqb n 0) (told (hide (alone b) k h) c) (refused n (place c n))) (turned_like l (hide (alone b) k h) h c (hide_like (alone b) k h))
      ∙ go (eqb (turned l h c) 0) refl
    where
      go : (t : Bool) → eqb (turned l h c) 0 ≡ t →
          pick t (told (hide (alone b) k h) c) (refused (turned l h c) (place c (turned l h c))) ≡ pick t (told h c) (refused (turned l h c) (place c (turned l h c)))
      go true e = told_hidden c f (eqb-true (turned l h c) 0 e)
      go false e = refl

sealed_from : (l : Limits) (cs : List Call) (h : House) (k b : ℕ) → (Closed k (ran l h cs) → ⊥) →
    answers_but k b l h cs ≡ answers l (hide (alone b) k h) (but_others k b cs)
unfolding answers_but answers but_others ran
sealed_from l [] h k b open-yet = refl
sealed_from l (c ∷ cs) h k b open-yet = go (others_on k b c) refl (sealed_from l cs (after l h c) k b open-yet)
  where
    rest : List Call
    rest = but_others k b cs

    go : (t : Bool) → others_on k b c ≡ t → answers_but k b l (after l h c) cs ≡ answers l (hide (alone b) k (after l h c)) rest →
        pick t [] (answer l h c ∷ []) ++ answers_but k b l (after l h c) cs ≡ answers l (hide (alone b) k h) (pick t rest (c ∷ rest))
    go true e later = later ∙ ap (λ (g : House). answers l g rest) (hide-others l h k b c e)
    go false e later =
        ap₂ (λ (a : Answer) (xs : List Answer). a ∷ xs)
        (sym (answer_hidden l h k b (λ w. open-yet (closed_ran l cs (after l h c) k (closed_after l h c k w))) c e))
        (later ∙ ap (λ (g : House). answers l g rest) (hide-after (alone b) l h k c (alone-nobody b) (others_not k b c e)))

pub sealed : Sealed
unfolding Sealed
sealed = λ l cs k b open-still. sealed_from l cs new_house k b (λ w. omega (arith, w.1)) ∙ ap (λ (h : House). answers l h (but_others k b cs)) (hide_new (alone b) k)
