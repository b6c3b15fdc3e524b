-- What is left of a line is no longer than the line. Assumes nothing.
use Rattle.std.proofs.Common.{◌≡◌, ℕ, zero, suc, ◌≤◌, Bool, true, false, ◌&&◌, eqb, ltb, List, [], ◌∷◌, length, drop, Some, None, Ok, Err, Option, Result, sym, subst, arith, length-drop}
use Rattle.auction.specs.Bids.{pick}
use Rattle.auction.specs.House.{Call, opens, ticks, my_bids, result, brings, lot_is}
use Rattle.reading.specs.Calls.{behind, bids_behind, call, kind, likely, one, two, words}
use Rattle.reading.specs.Lines.{bid, blank, byte, comma, end, field, gap, given, grown, next, number, piece, several, skip, some_of, spelt, starts}
use Rattle.reading.specs.Reads.{Read, got, stuck, then}
use Rattle.reading.specs.Runs.{Run, further, read_of}
use Rattle.wire.specs.declared.kind.Kind.{Kind}
use Rattle.wire.specs.declared.kind.Kind.TheVariants.{Open, Bid, Ticks, MyBids, Result as Answer, Brings, Lot}

-- at most n bytes are left
abbrev pub Within : {X : Type 0} → ℕ → Read X → Type 0
Within n (got x left) = length left ≤ n
Within n (stuck left) = length left ≤ n

-- of any bytes no more are left than there were
abbrev pub Shortens : {X : Type 0} → (List ℕ → Read X) → Type 0
Shortens read = (n : ℕ) (bs : List ℕ) → length bs ≤ n → Within n (read bs)

-- what holds of both holds of the one that is taken
module _ {X : Type 0} (P : X → Type 0) where
  pub pick_either : (t : Bool) (a b : X) → P a → P b → P (pick t a b)
  pick_either true a b h k = h
  pick_either false a b h k = k

  pub given_either : {W : Type 0} (o : Option W) (none : X) (some : W → X) → P none → ((w : W) → P (some w)) → P (given o none some)
  given_either None none some h k = h
  given_either (Some w) none some h k = k w

pub pick-within : {X : Type 0} (n : ℕ) (t : Bool) (a b : Read X) → Within n a → Within n b → Within n (pick t a b)
pick-within n = pick_either (Within n)

pub pick_shorter : (n : ℕ) (t : Bool) (a b : List ℕ) → length a ≤ n → length b ≤ n → length (pick t a b) ≤ n
pick_shorter n = pick_either (λ l. length l ≤ n)

-- one thing read, and the next behind it
module _ {W X : Type 0} (one : List ℕ → Read W) (next : W → List ℕ → Read X) where
  then-within : Shortens one → ((w : W) → Shortens (next w)) → Shortens (λ bs. then (one bs) next)
  then-within h k n bs few = go (one bs) (h n bs few)
    where
      go : (r : Read W) → Within n r → Within n (then r next)
      go (got w left) l = k w n left l
      go (stuck left) l = l

skip_shorter : (n : ℕ) (bs : List ℕ) → length bs ≤ n → length (skip bs) ≤ n
unfolding skip
skip_shorter n [] h = h
skip_shorter n (b ∷ bs) h = pick_shorter n (blank b) (skip bs) (b ∷ bs) (skip_shorter n bs (omega arith)) h

gap_within : Shortens gap
gap_within n bs h = pick-within n (starts blank bs) _ _ (skip_shorter n bs h) h

pub byte-within : (n w : ℕ) (bs : List ℕ) → length bs ≤ n → Within n (byte w bs)
byte-within n w bs h = pick-within n (eqb w 32) _ _ (gap_within n bs h) (pick-within n (starts (λ b. eqb b w) bs) _ _ (omega (arith, length-drop 1 bs)) h)

pub spelt-within : (n : ℕ) (ws bs : List ℕ) → length bs ≤ n → Within n (spelt ws bs)
unfolding spelt
spelt-within n [] bs h = h
spelt-within n (w ∷ ws) bs h = then-within _ _ (λ n. byte-within n w) (λ _ n. spelt-within n ws) n bs h

end-within : Shortens end
end-within n bs h = let l = skip_shorter n bs h in given_either (Within n) (next (skip bs)) _ _ l (λ _. l)

module _ {X D E : Type 0} (sort : ℕ → Option D) (more : X → D → Result X E) where
  further-within : (n : ℕ) (r : Result X E) (bs : List ℕ) (next : X → Run X E) → length bs ≤ n → ((x : X) → Within n (read_of (next x))) → Within n (read_of (further r bs next))
  further-within n (Ok x) bs next h k = k x
  further-within n (Err e) bs next h k = h

  grown-within : (x : X) (n : ℕ) (bs : List ℕ) → length bs ≤ n → Within n (read_of (grown sort more x bs))
  unfolding grown
  grown-within x n [] h = h
  grown-within x n (b ∷ bs) h = given_either (λ (r : Run X E). Within n (read_of r)) (sort b) _ _ h (λ d. further-within n (more x d) (b ∷ bs) _ h (λ m. grown-within m n bs (omega arith)))

  pub some_within : (x : X) (e : E) → Shortens (λ bs. read_of (some_of sort more x e bs))
  some_within x e n bs h = given_either (λ (r : Run X E). Within n (read_of r)) (given (next bs) None sort) _ _ h (λ _. grown-within x n bs h)

pub number-within : Shortens number
number-within = some_within _ _ _ _

field-within : Shortens field
field-within = then-within _ _ gap_within (λ _. number-within)

bid-within : Shortens bid
bid-within = then-within _ _ (some_within piece _ _ _) (λ _. then-within _ _ field-within (λ _ _ _ l. l))

several-within : (k : ℕ) → Shortens (several k)
unfolding several
several-within zero = λ _ _ h. h
several-within (suc k) =
    then-within _ _ bid-within (λ _ n left h.
    let l = skip_shorter n left h in
    let more = skip_shorter n (drop 1 (skip left)) (omega (arith, length-drop 1 (skip left))) in
    pick-within n (comma (skip left) && ltb 0 k) _ _ (then-within _ _ (several-within k) (λ _ _ _ e. e) n (skip (drop 1 (skip left))) more) l)

bids-within : Shortens bids_behind
bids-within =
    then-within _ _ (λ n bs h. byte-within n 58 (skip bs) (skip_shorter n bs h)) (λ _ n bs h.
    let l = skip_shorter n bs h in
    given_either (Within n) (next (skip bs)) _ _ l (λ _. several-within 255 n (skip bs) l))

one-within : (made : ℕ → Call) → Shortens (one made)
one-within made = then-within _ _ field-within (λ _ _ _ l. l)

two-within : (made : ℕ → ℕ → Call) → Shortens (two made)
two-within made = then-within _ _ field-within (λ a. one-within (made a))

behind-within : (k : Kind) → Shortens (behind k)
behind-within Open = two-within opens
behind-within Bid = then-within _ _ field-within (λ _. then-within _ _ field-within (λ _. then-within _ _ bids-within (λ _ _ _ l. l)))
behind-within Ticks = one-within ticks
behind-within MyBids = two-within my_bids
behind-within Answer = two-within result
behind-within Brings = one-within brings
behind-within Lot = one-within lot_is

kind-within : Shortens kind
kind-within n bs h = given_either (Within n) (likely bs) _ _ h (λ k. then-within _ _ (λ n. spelt-within n (words k)) (λ _ _ _ l. l) n bs h)

call-within : Shortens call
call-within =
    then-within _ _ (λ n bs h. kind-within n (skip bs) (skip_shorter n bs h)) (λ k. then-within _ _ (behind-within k) (λ _. then-within _ _ end-within (λ _ _ _ l. l)))

pub stuck_within : (bs left : List ℕ) → stuck left ≡ call bs → length left ≤ length bs
stuck_within bs left e = subst (Within (length bs)) (sym e) (call-within (length bs) bs (omega arith))
