-- What was opened is always a house, so that no answer refuses by 3. Assumes nothing.
use Rattle.std.proofs.Common.{◌≡◌, ℕ, ◌+◌, Bool, true, false, eqb, ltb, leb, ◌≢◌, List, length, sym, refl, ◌∙◌, arith}
use Rattle.std.proofs.lemmas.Bool.{eqb-false}
use Rattle.auction.specs.Bids.{pick, Bids}
use Rattle.auction.specs.House.{Call, opens, bids, ticks, my_bids, result, brings, lot_is, garbled, refused, number, two, list, Lot, House, the_lot, all_in, good_call, turned_by, turned, place, told, answer, Limits as AllLimits}
use Rattle.ledger.specs.Houses.{house_in}
use Rattle.ledger.specs.Opening.{new_words}
use Rattle.ledger.proofs.Opened.{new_sound}
use Rattle.keeper.specs.Keeping.{limits_now, word_limits, the_keeper}
use Rattle.keeper.specs.Promises.{NeverThree}
use Rattle.keeper.proofs.OneCall.{says_house}
use Rattle.keeper.proofs.Runs.{left, left_kept}

-- neither way is z
neither : {A : Type 0} {x y z : A} (t : Bool) → x ≢ z → y ≢ z → pick t x y ≢ z
neither true a b = a
neither false a b = b

turned_by_three : (l : AllLimits) (h : House) (c : Call) → turned_by l h c ≢ 3
turned_by_three l h (opens n t) = neither (ltb h.now t) (neither (ltb (length h.lots) l.lots) (eqb-false 0 3 refl) (eqb-false 8 3 refl)) (eqb-false 7 3 refl)
turned_by_three l h (bids k b bs) =
    let o : Lot = the_lot h k in
    neither (ltb k (length h.lots)) (neither (ltb h.now o.until) (neither (all_in bs o.pieces) (eqb-false 0 3 refl) (eqb-false 6 3 refl)) (eqb-false 5 3 refl)) (eqb-false 4 3 refl)
turned_by_three l h (ticks n) = neither (ltb (h.now + n) 16777216) (eqb-false 0 3 refl) (eqb-false 8 3 refl)
turned_by_three l h (my_bids k b) = neither (ltb k (length h.lots)) (eqb-false 0 3 refl) (eqb-false 4 3 refl)
turned_by_three l h (result k b) = neither (ltb k (length h.lots)) (neither (leb (the_lot h k).until h.now) (eqb-false 0 3 refl) (eqb-false 5 3 refl)) (eqb-false 4 3 refl)
turned_by_three l h (brings k) = neither (ltb k (length h.lots)) (neither (leb (the_lot h k).until h.now) (eqb-false 0 3 refl) (eqb-false 5 3 refl)) (eqb-false 4 3 refl)
turned_by_three l h (lot_is k) = neither (ltb k (length h.lots)) (eqb-false 0 3 refl) (eqb-false 4 3 refl)
turned_by_three l h (garbled n) = eqb-false 1 3 refl

-- the written house never turns away by 3
pub turned_three : (l : AllLimits) (h : House) (c : Call) → turned l h c ≢ 3
turned_three l h c = neither (good_call l c) (turned_by_three l h c) (eqb-false 2 3 refl)

number_tells : (x n p : ℕ) → number x ≢ refused n p
number_tells x n p e = let z : ◌≡◌ {A = ℕ} 0 1 = cc in omega arith

two_tell : (x y n p : ℕ) → two x y ≢ refused n p
two_tell x y n p e = let z : ◌≡◌ {A = ℕ} 0 1 = cc in omega arith

list_tells : (bs : Bids) (n p : ℕ) → list bs ≢ refused n p
list_tells bs n p e = let z : ◌≡◌ {A = ℕ} 0 1 = cc in omega arith

told_tells : (h : House) (c : Call) (n p : ℕ) → told h c ≢ refused n p
told_tells h (opens x t) n p = number_tells _ n p
told_tells h (bids k b bs) n p = number_tells _ n p
told_tells h (ticks x) n p = number_tells _ n p
told_tells h (my_bids k b) n p = list_tells _ n p
told_tells h (result k b) n p = two_tell _ _ n p
told_tells h (brings k) n p = two_tell _ _ n p
told_tells h (lot_is k) n p = two_tell _ _ n p
told_tells h (garbled x) n p = number_tells _ n p

same_why : (n m p q : ℕ) → refused n p ≡ refused m q → n ≡ m
same_why n m p q e = cc

answer_three : (l : AllLimits) (h : House) (c : Call) (p : ℕ) → answer l h c ≢ refused 3 p
answer_three l h c p =
    neither (eqb (turned l h c) 0) (told_tells h c 3 p) (λ e. turned_three l h c (same_why (turned l h c) 3 (place c (turned l h c)) p e))

pub never_three : NeverThree the_keeper
unfolding NeverThree
never_three = λ l cs c p g r e.
    let w : List ℕ = left (new_words (word_limits l)) cs in
    let k = left_kept (new_words (word_limits l)) cs (new_sound (word_limits l) g) r in
    answer_three (limits_now w) (house_in w) c p (sym (says_house w c k.sound.house) ∙ e)
