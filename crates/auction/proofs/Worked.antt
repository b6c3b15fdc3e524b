-- The worked lots come out as the table says: one test, computed over the whole table, and what it says of each lot.
-- Assumes nothing.
use Rattle.std.proofs.Common.{◌≡◌, ℕ, zero, suc, ◌<◌, Bool, true, false, ◌&&◌, eqb, List, [], ◌∷◌, length, get_or, refl, ap₂, arith}
use Rattle.std.proofs.lemmas.Bool.{and_parts, eqb-true, false≢true}
use Rattle.auction.specs.Bids.{all, best, choice, pays, within, less, with_some, first_good, given, without}
use Rattle.auction.specs.Worked.{Worked, worked_lots, for_each, ComesOut, no_lot, AllComeOut}

same_numbers : List ℕ → List ℕ → Bool
same_numbers [] [] = true
same_numbers [] (y ∷ ys) = false
same_numbers (x ∷ xs) [] = false
same_numbers (x ∷ xs) (y ∷ ys) = eqb x y && same_numbers xs ys

same_numbers_true : (xs ys : List ℕ) → same_numbers xs ys ≡ true → xs ≡ ys
unfolding same_numbers
same_numbers_true [] [] t = refl
same_numbers_true [] (y ∷ ys) t = absurd (false≢true t)
same_numbers_true (x ∷ xs) [] t = absurd (false≢true t)
same_numbers_true (x ∷ xs) (y ∷ ys) t =
    let p = and_parts (eqb x y) (same_numbers xs ys) t in
    ap₂ (λ (n : ℕ) (ns : List ℕ). n ∷ ns) (eqb-true x y p.0) (same_numbers_true xs ys p.1)

right : Worked → Bool
right w =
    eqb (best w.made (all w.pieces)) w.comes_to
    && (same_numbers (choice w.made (all w.pieces)) w.chosen
    && same_numbers (for_each w.made (pays w.made (all w.pieces))) w.paid)

right_comes_out : (w : Worked) → right w ≡ true → ComesOut w
unfolding right ComesOut
right_comes_out w t =
    let p = and_parts (eqb (best w.made (all w.pieces)) w.comes_to) _ t in
    let q = and_parts (same_numbers (choice w.made (all w.pieces)) w.chosen) _ p.1 in
    (eqb-true _ _ p.0, same_numbers_true _ _ q.0, same_numbers_true _ _ q.1)

every_right : List Worked → Bool
every_right [] = true
every_right (w ∷ ws) = right w && every_right ws

right_at : (ws : List Worked) → every_right ws ≡ true → (k : ℕ) → k < length ws → right (get_or ws k no_lot) ≡ true
unfolding every_right
right_at [] t k l = absurd (omega arith)
right_at (w ∷ ws) t zero l = (and_parts (right w) (every_right ws) t).0
right_at (w ∷ ws) t (suc k) l = right_at ws (and_parts (right w) (every_right ws) t).1 k (omega arith)

table_right : every_right worked_lots ≡ true
unfolding every_right right worked_lots same_numbers for_each best with_some choice first_good given without within less all
table_right = refl

pub all_come_out : AllComeOut
unfolding AllComeOut
all_come_out = λ k l. right_comes_out (get_or worked_lots k no_lot) (right_at worked_lots table_right k l)
