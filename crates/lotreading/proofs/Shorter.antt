-- What is left of a text is no longer than the text. Assumes nothing.
use Rattle.std.proofs.Common.{◌≡◌, ℕ, zero, suc, ◌≤◌, Bool, false, ◌&&◌, ◌||◌, ltb, leb, List, [], ◌∷◌, length, drop, codes, sym, ap, subst, arith, length-drop}
use Rattle.auction.specs.Bids.{Bids}
use Rattle.reading.specs.Calls.{at}
use Rattle.reading.specs.Lines.{next, number, piece, some_of}
use Rattle.reading.specs.Reads.{Read, got, stuck}
use Rattle.reading.specs.Runs.{Run, halted, made, read_of}
use Rattle.reading.proofs.Shorter.{Shortens, Within, byte-within, given_either, number-within, pick_either, pick_shorter, pick-within, some_within, spelt-within}
use Rattle.lotreading.specs.Finds.{Find, and_then, expecting, found, found_of, missed}
use Rattle.lotreading.specs.Lots.{Reading, bid, bidder, front, joined, lot, or_at, other_bid, other_bidder_at, set_here, set_of, several}
use Rattle.lotreading.specs.Parts.{behind_blanks, blank, blank_here, gap, in_range, ranged, remark, skip}
use Rattle.lotreading.specs.declared.expected.Expected.{Expected}
use Rattle.lotreading.specs.declared.expected.Expected.TheVariants.{Set}

-- at most n bytes are left
abbrev Left : {X : Type 0} → ℕ → Find X → Type 0
Left n (found x left) = length left ≤ n
Left n (missed e left) = length left ≤ n

-- of any bytes no more are left than there were
abbrev Lessens : {X : Type 0} → (List ℕ → Find X) → Type 0
Lessens find = (n : ℕ) (bs : List ℕ) → length bs ≤ n → Left n (find bs)

-- one thing read, and the next behind it
module _ {W X : Type 0} (one : List ℕ → Find W) (next : W → List ℕ → Find X) where
  then-left : Lessens one → ((w : W) → Lessens (next w)) → Lessens (λ bs. and_then (one bs) next)
  then-left h k n bs few = go (one bs) (h n bs few)
    where
      go : (r : Find W) → Left n r → Left n (and_then r next)
      go (found w left) l = k w n left l
      go (missed e left) l = l

module _ {X : Type 0} (e : Expected) (read : List ℕ → Read X) where
  expecting-left : Shortens read → Lessens (λ bs. expecting e (read bs))
  expecting-left h n bs few = go (read bs) (h n bs few)
    where
      go : (r : Read X) → Within n r → Left n (expecting e r)
      go (got x left) l = l
      go (stuck left) l = l

skip-left : (t : Bool) (n : ℕ) (bs : List ℕ) → length bs ≤ n → length (skip t bs) ≤ n
unfolding skip
skip-left t n [] h = h
skip-left t n (b ∷ bs) h = pick_shorter n (remark t b || blank b) (skip (remark t b) bs) (b ∷ bs) (skip-left (remark t b) n bs (omega arith)) h

blanks_left : (n : ℕ) (bs : List ℕ) → length bs ≤ n → length (behind_blanks bs) ≤ n
blanks_left = skip-left false

gap-within : Shortens gap
gap-within n bs h = pick-within n (blank_here bs) _ _ (blanks_left n bs h) h

ranged-within : (least most : ℕ) → Shortens (ranged least most)
ranged-within least most n bs h = go (number bs) (number-within n bs h)
  where
    go : (r : Read ℕ) → Within n r → Within n (in_range least most bs r)
    go (got m left) k = pick-within n (leb least m && leb m most) _ _ k h
    go (stuck left) k = h

set_of-left : (k : ℕ) → Lessens (set_of k)
set_of-left k n bs h = go (some_of piece (joined k) 0 Set bs) (some_within _ _ _ _ n bs h)
  where
    go : (r : Run ℕ Expected) → Within n (read_of r) → Left n (found_of r)
    go (made m left) l = l
    go (halted e left) l = l

bid-left : (k : ℕ) → Lessens (bid k)
bid-left k =
    then-left _ _ (set_of-left k) (λ _. then-left _ _ (expecting-left _ _ gap-within) (λ _. then-left _ _ (expecting-left _ _ (ranged-within 1 1000000000)) (λ _ _ _ l. l)))

module _ {X : Type 0} (one : List ℕ → Find X) (more : Bool → X → List ℕ → Find Bool) (f : Lessens one) (g : (may : Bool) (x : X) → Lessens (more may x)) where
  several-left : (k : ℕ) → Lessens (several one more k)
  unfolding several
  several-left zero = λ _ _ h. h
  several-left (suc k) =
      then-left _ _ f (λ x. then-left _ _ (g (ltb 0 k) x) (λ t n from h. pick_either (Left n) t _ _ (then-left _ _ (several-left k) (λ _ _ _ l. l) n from h) h))

or_at-left : (may : Bool) → Lessens (or_at may)
or_at-left may n bs h =
    pick_either (Left n) (at 111 bs) _ _
    (pick_either (Left n) may _ _ (then-left _ _ (expecting-left _ _ (λ n. spelt-within n (codes "or"))) (λ _. then-left _ _ (expecting-left _ _ gap-within) (λ _ _ _ l. l)) n bs h) h)
    h

other_bid-left : (may : Bool) → Lessens (other_bid may)
other_bid-left may n bs h = pick_either (Left n) (blank_here bs) _ _ (or_at-left may n (behind_blanks bs) (blanks_left n bs h)) h

bidder-left : (k : ℕ) → Lessens (bidder k)
bidder-left k n bs h =
    pick_either (Left n) (at 110 bs) _ _
    (then-left _ _ (expecting-left _ _ (λ n. spelt-within n (codes "nothing"))) (λ _ _ _ l. l) n bs h)
    (pick_either (Left n) (set_here bs) _ _ (several-left _ _ (bid-left k) (λ may _. other_bid-left may) 16 n bs h) h)

other_bidder_at-left : (may : Bool) (b : Bids) → Lessens (other_bidder_at may b)
other_bidder_at-left may b n bs h =
    pick_either (Left n) (at 59 bs) _ _ (pick_either (Left n) may _ _ (blanks_left n (drop 1 bs) (omega (arith, length-drop 1 bs))) h) (given_either (Left n) (next bs) _ _ h (λ _. h))

front-left : Lessens front
front-left =
    then-left _ _ (expecting-left _ _ (λ n bs h. ranged-within 1 16 n (behind_blanks bs) (blanks_left n bs h))) (λ _.
    then-left _ _ (expecting-left _ _ (λ n bs h. byte-within n 58 (behind_blanks bs) (blanks_left n bs h))) (λ _. blanks_left))

lot-left : Lessens lot
lot-left =
    then-left _ _ front-left (λ k. then-left _ _ (several-left _ _ (bidder-left k) (λ may b n bs h. other_bidder_at-left may b n (behind_blanks bs) (blanks_left n bs h)) 32) (λ _ _ _ l. l))

-- what is left, where a lot was found too
abbrev pub left_of : {X : Type 0} → Find X → List ℕ
left_of (found x left) = left
left_of (missed e left) = left

pub lot_left : (bs left : List ℕ) → left ≡ left_of (lot bs) → length left ≤ length bs
lot_left bs left is = subst (λ l. length l ≤ length bs) (sym is) (go (lot bs) (lot-left (length bs) bs (omega arith)))
  where
    go : (r : Find Reading) → Left (length bs) r → length (left_of r) ≤ length bs
    go (found l left) h = h
    go (missed e left) h = h

pub missed_within : (bs : List ℕ) (e : Expected) (left : List ℕ) → missed e left ≡ lot bs → length left ≤ length bs
missed_within bs e left is = lot_left bs left (ap left_of is)
