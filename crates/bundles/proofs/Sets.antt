-- The bridge between masks and sets: what `&`, `|` and `>>` on masks do to the sets that their bits are. Each goes through the bits, lowest first. Assumes nothing.
use Rattle.std.proofs.Common.{◌≡◌, ℕ, zero, suc, ◌+◌, ◌-◌, ◌*◌, ◌/◌, ◌%◌, ◌^◌, ◌<◌, ◌≤◌, min, max, Bool, true, false, not, ◌&&◌, ◌||◌, eqb, [], ◌∷◌, length, get_or, sym, refl, ap, ◌∙◌, subst, ap₂, pow-suc, div-one, one-add, arith, pow_mono}
use native.Mathlib.Nat.{zero-div, div-eq_of_lt}
use lib.Bits.{bit_and, bit_or, and_step, or_step, and_zero_r}
use Rattle.std.proofs.lemmas.Nat.{shr-shr}
use Rattle.std.proofs.lemmas.Bool.Decides.{nat_tests}
use Rattle.auction.specs.Bids.{Some, pick, within, less, all}
use Rattle.auction.specs.House.{any}
use Rattle.auction.specs.Laws.{touches}
use Rattle.bundles.specs.Masks.{bits, mask_of, union}

-- the upper bits of a number below a power of two are below half of it
half_below : (k m : ℕ) → m < 2 ^ suc k → m / 2 < 2 ^ k
half_below k m h = omega (arith, pow-suc 2 k)

any_step : (m : ℕ) (t : Bool) → eqb (m / 2) 0 ≡ not t → eqb m 0 ≡ not (eqb (m % 2) 1 || t)
any_step m t e = grind (arith, nat_tests)

pub any-bits : (n m : ℕ) → m < 2 ^ n → eqb m 0 ≡ not (any (bits n m))
unfolding any bits
any-bits zero m h = grind (arith, nat_tests)
any-bits (suc n) m h = any_step m _ (any-bits n (m / 2) (half_below n m h))

within_step : (s m a : ℕ) (t : Bool) → eqb a (s / 2) ≡ t → eqb (a * 2 + min (s % 2) (m % 2)) s ≡ ((not (eqb (s % 2) 1) || eqb (m % 2) 1) && t)
within_step s m a t e = grind (arith, nat_tests)

-- nothing but the empty set is within no pieces
none_step : (s : ℕ) (t : Bool) → eqb (s / 2) 0 ≡ t → eqb s 0 ≡ (not (eqb (s % 2) 1) && t)
none_step s t e = grind (arith, nat_tests)

eqb_swap : (a : ℕ) → eqb 0 a ≡ eqb a 0
eqb_swap a = grind (arith, nat_tests)

pub within-bits : (k n s m : ℕ) → s < 2 ^ k → m < 2 ^ n → eqb (bit_and s m) s ≡ within (bits k s) (bits n m)
unfolding within bits
within-bits zero n s m hs hm = let none : s ≡ 0 = omega arith in rw none
within-bits (suc k) zero s m hs hm =
    let none : m ≡ 0 = omega arith in
    rw (none, and_zero_r, eqb_swap) (none_step s _ (rw (and_zero_r, eqb_swap) at (within-bits k zero (s / 2) 0 (half_below k s hs) (omega arith))))
within-bits (suc k) (suc n) s m hs hm =
    rw and_step (within_step s m _ _ (within-bits k n (s / 2) (m / 2) (half_below k s hs) (half_below n m hm)))

-- a shift by one more goes on from the upper bits
shift_one : (s n : ℕ) → s / 2 ^ suc n ≡ s / 2 / 2 ^ n
shift_one s n = sym (shr-shr s 1 n ∙ ap (λ j. s / 2 ^ j) (one-add n))

-- a piece is in the set just if its bit is set
pub has_bit : (n p m : ℕ) → m < 2 ^ n → eqb (m / 2 ^ p % 2) 1 ≡ get_or (bits n m) p false
unfolding bits
has_bit zero p m h = let none : m ≡ 0 = omega arith in rw (none, zero-div)
has_bit (suc n) zero m h = rw div-one
has_bit (suc n) (suc p) m h = rw shift_one (has_bit n p (m / 2) (half_below n m h))

-- a number of sixteen bits has none beyond
pub below_past : (m p : ℕ) → m < 65536 → 16 ≤ p → m < 2 ^ p
below_past m p h far = omega (arith, pow_mono far)

pub has-none : (n p m : ℕ) → m < 65536 → 16 ≤ p → m < 2 ^ n → false ≡ get_or (bits n m) p false
has-none n p m h far small = rw (div-eq_of_lt (below_past m p h far)) at (has_bit n p m small)

-- a lot has all pieces of a set just if the mask has no bit beyond them
all_step : (s q : ℕ) (t : Bool) → eqb q 0 ≡ t → eqb q 0 ≡ ((not (eqb (s % 2) 1) || true) && t)
all_step s q t e = grind (arith, nat_tests)

pub within_all : (k n s : ℕ) → s < 2 ^ k → eqb (s / 2 ^ n) 0 ≡ within (bits k s) (all n)
unfolding within bits all
within_all zero n s h = let none : s ≡ 0 = omega arith in rw (none, zero-div)
within_all (suc k) zero s h = rw div-one (none_step s _ (rw div-one at (within_all k zero (s / 2) (half_below k s h))))
within_all (suc k) (suc n) s h =
    rw shift_one (all_step s _ _ (within_all k n (s / 2) (half_below k s h)))

-- a set fits any lot whose pieces are beyond its highest bit
pub within_more : (k n s : ℕ) → s < 2 ^ k → s < 2 ^ n → true ≡ within (bits k s) (all n)
within_more k n s h below = rw (div-eq_of_lt below) at (within_all k n s h)

less_head : (m s a r : ℕ) → r + (a * 2 + min (m % 2) (s % 2)) ≡ m → eqb (r % 2) 1 ≡ (eqb (m % 2) 1 && not (eqb (s % 2) 1))
less_head m s a r e = grind (arith, nat_tests)

-- whatever is m without the pieces of s
pub less-bits : (n k m s r : ℕ) → s < 2 ^ k → r + bit_and m s ≡ m → bits n r ≡ less (bits n m) (bits k s)
unfolding less bits
less-bits zero k m s r h e = refl
less-bits (suc n) zero m s r h e =
    let none : s ≡ 0 = omega arith in
    let whole : r ≡ m = omega (arith, rw (none, and_zero_r) at e) in rw whole
less-bits (suc n) (suc k) m s r h e =
    let e' = rw and_step at e in
    ap₂ (λ x xs. x ∷ xs) (less_head m s _ r e') (less-bits n k (m / 2) (s / 2) (r / 2) (half_below k s h) (omega arith))

-- m & !s, at any width
pub and_not : (k m s : ℕ) → m < 2 ^ k → s < 2 ^ k → bit_and m (2 ^ k - 1 - s) + bit_and m s ≡ m
and_not zero m s hm hs = let none : m ≡ 0 = omega arith in rw none
and_not (suc k) m s hm hs =
    let p = pow-suc 2 k in
    let z : ℕ = 2 ^ suc k - 1 - s in
    let half : z / 2 ≡ 2 ^ k - 1 - s / 2 = omega arith in
    let low : z % 2 ≡ 1 - s % 2 = omega arith in
    let high = subst (λ y. bit_and (m / 2) y + bit_and (m / 2) (s / 2) ≡ m / 2) (sym half) (and_not k (m / 2) (s / 2) (half_below k m hm) (half_below k s hs)) in
    omega (arith, and_step m z, and_step m s)

or_head : (a b c : ℕ) → eqb ((c * 2 + max (a % 2) (b % 2)) % 2) 1 ≡ (eqb (a % 2) 1 || eqb (b % 2) 1)
or_head a b c = grind (arith, nat_tests)

pub or_bits : (n a b : ℕ) → bits n (bit_or a b) ≡ union (bits n a) (bits n b)
unfolding union bits
or_bits zero a b = refl
or_bits (suc n) a b =
    let half : bit_or a b / 2 ≡ bit_or (a / 2) (b / 2) = omega (arith, or_step a b) in
    ap₂ (λ x xs. x ∷ xs) (rw or_step (or_head a b _)) (rw half (or_bits n (a / 2) (b / 2)))

touch_step : (s m a : ℕ) (t : Bool) → not (eqb a 0) ≡ t → not (eqb (a * 2 + min (s % 2) (m % 2)) 0) ≡ ((eqb (s % 2) 1 && eqb (m % 2) 1) || t)
touch_step s m a t e = grind (arith, nat_tests)

pub touch_bits : (k n s m : ℕ) → s < 2 ^ k → m < 2 ^ n → not (eqb (bit_and s m) 0) ≡ touches (bits k s) (bits n m)
unfolding touches bits
touch_bits zero n s m hs hm = let none : s ≡ 0 = omega arith in rw none
touch_bits (suc k) zero s m hs hm = let none : m ≡ 0 = omega arith in rw (none, and_zero_r)
touch_bits (suc k) (suc n) s m hs hm =
    rw and_step (touch_step s m _ _ (touch_bits k n (s / 2) (m / 2) (half_below k s hs) (half_below n m hm)))

mask_step : (m h : ℕ) → h ≡ m / 2 → pick (eqb (m % 2) 1) 1 0 + 2 * h ≡ m
mask_step m h e = grind (arith, nat_tests)

-- from a mask to its set and back, and from a set to its mask and back
pub mask_bits : (n m : ℕ) → m < 2 ^ n → mask_of (bits n m) ≡ m
unfolding mask_of bits
mask_bits zero m h = omega arith
mask_bits (suc n) m h = mask_step m _ (mask_bits n (m / 2) (half_below n m h))

pub bits_mask : (s : Some) → bits (length s) (mask_of s) ≡ s
unfolding mask_of bits
bits_mask [] = refl
bits_mask (true ∷ s) =
    let half : (1 + 2 * mask_of s) / 2 ≡ mask_of s = omega arith in
    let odd : (1 + 2 * mask_of s) % 2 ≡ 1 = omega arith in rw (half, odd, bits_mask s)
bits_mask (false ∷ s) =
    let half : (0 + 2 * mask_of s) / 2 ≡ mask_of s = omega arith in
    let even : (0 + 2 * mask_of s) % 2 ≡ 0 = omega arith in rw (half, even, bits_mask s)

pub mask_below : (s : Some) → mask_of s < 2 ^ length s
unfolding mask_of
mask_below [] = omega arith
mask_below (true ∷ s) = omega (arith, mask_below s, pow-suc 2 (length s))
mask_below (false ∷ s) = omega (arith, mask_below s, pow-suc 2 (length s))

pub length-bits : (n m : ℕ) → length (bits n m) ≡ n
unfolding bits
length-bits zero m = refl
length-bits (suc n) m = ap suc (length-bits n (m / 2))

-- two masks below the same power of two are the same set only if they are the same
pub same_mask : (n a b : ℕ) → a < 2 ^ n → b < 2 ^ n → bits n a ≡ bits n b → a ≡ b
same_mask n a b ha hb e = sym (mask_bits n a ha) ∙ ap mask_of e ∙ mask_bits n b hb
