-- Numbers read from bytes and written as bytes, low byte first. Assumes nothing.
use Rattle.std.proofs.Common.{◌≡◌, ℕ, zero, suc, ◌+◌, ◌*◌, ◌/◌, ◌%◌, ◌^◌, ◌<◌, ◌≤◌, List, [], ◌∷◌, ◌++◌, length, get_or, take, drop, refl, ap, pow-suc, arith}
use Rattle.std.proofs.lemmas.List.{get_or-drop}
use Rattle.wire.specs.Bytes.{AllBytes, spelled, number_in}

number-none : (k : ℕ) → number_in k [] ≡ 0
unfolding number_in
number-none zero = refl
number-none (suc k) = refl

-- the lowest byte, and the number that the others are, which begin at the next place
pub number_at : (k at next : ℕ) (bs : List ℕ) → next ≡ suc at → number_in (suc k) (drop at bs) ≡ get_or bs at 0 + 256 * number_in k (drop next bs)
unfolding number_in
number_at k at next bs e = rw e (go at bs)
  where
    go : (at : ℕ) (bs : List ℕ) → number_in (suc k) (drop at bs) ≡ get_or bs at 0 + 256 * number_in k (drop (suc at) bs)
    go zero [] = omega (arith, number-none k)
    go zero (b ∷ bs) = refl
    go (suc at) [] = omega (arith, number-none k)
    go (suc at) (b ∷ bs) = go at bs

none-at : (at : ℕ) (bs : List ℕ) → number_in 0 (drop at bs) ≡ 0
unfolding number_in
none-at at bs = refl

pub two_at : (at : ℕ) (bs : List ℕ) → number_in 2 (drop at bs) ≡ get_or bs at 0 + get_or bs (at + 1) 0 * 256
two_at at bs = omega (arith, number_at 1 at (at + 1) bs (omega arith), number_at 0 (at + 1) (at + 2) bs (omega arith), none-at (at + 2) bs)

-- four bytes, and the number that the others are
four_more : (k at : ℕ) (bs : List ℕ) → number_in (suc (suc (suc (suc k)))) (drop at bs) ≡ get_or bs at 0 + get_or bs (at + 1) 0 * 256 + get_or bs (at + 2) 0 * 65536 + get_or bs (at + 3) 0 * 16777216 + 4294967296 * number_in k (drop (at + 4) bs)
four_more k at bs =
    omega (
      arith,
      number_at (suc (suc (suc k))) at (at + 1) bs (omega arith),
      number_at (suc (suc k)) (at + 1) (at + 2) bs (omega arith),
      number_at (suc k) (at + 2) (at + 3) bs (omega arith),
      number_at k (at + 3) (at + 4) bs (omega arith),
    )

pub four_at : (at : ℕ) (bs : List ℕ) → number_in 4 (drop at bs) ≡ get_or bs at 0 + get_or bs (at + 1) 0 * 256 + get_or bs (at + 2) 0 * 65536 + get_or bs (at + 3) 0 * 16777216
four_at at bs = omega (arith, four_more 0 at bs, none-at (at + 4) bs)

four_at' : (a b c d : ℕ) (bs : List ℕ) → b ≡ a + 1 → c ≡ a + 2 → d ≡ a + 3 → number_in 4 (drop a bs) ≡ get_or bs a 0 + get_or bs b 0 * 256 + get_or bs c 0 * 65536 + get_or bs d 0 * 16777216
four_at' a b c d bs e f g = rw (e, f, g) (four_at a bs)

pub eight_at : (at : ℕ) (bs : List ℕ) → number_in 8 (drop at bs) ≡ get_or bs at 0 + get_or bs (at + 1) 0 * 256 + get_or bs (at + 2) 0 * 65536 + get_or bs (at + 3) 0 * 16777216 + get_or bs (at + 4) 0 * 4294967296
    + get_or bs (at + 5) 0 * 1099511627776 + get_or bs (at + 6) 0 * 281474976710656 + get_or bs (at + 7) 0 * 72057594037927936
eight_at at bs = omega (arith, four_more 4 at bs, four_at' (at + 4) (at + 5) (at + 6) (at + 7) bs (omega arith) (omega arith) (omega arith))

pub rest_bytes : (b : ℕ) (bs : List ℕ) → AllBytes (b ∷ bs) → AllBytes bs
rest_bytes b bs h i = h (suc i)

pub drop_bytes : (n : ℕ) (bs : List ℕ) → AllBytes bs → AllBytes (drop n bs)
drop_bytes n bs h i = rw get_or-drop (h (n + i))

-- 256 ^ k is not 0
pow_pos' : (k : ℕ) → 0 < 256 ^ k
pow_pos' zero = omega arith
pow_pos' (suc k) = omega (arith, pow-suc 256 k, pow_pos' k)

-- writing what was read
pub spelled-number : (k : ℕ) (bs : List ℕ) → AllBytes bs → k ≤ length bs → spelled k (number_in k bs) ≡ take k bs
unfolding spelled number_in
spelled-number zero bs h long = refl
spelled-number (suc k) [] h long = absurd (omega arith)
spelled-number (suc k) (b ∷ bs) h long =
    let byte = h 0 in
    let low : (b + 256 * number_in k bs) % 256 ≡ b = omega arith in
    let high : (b + 256 * number_in k bs) / 256 ≡ number_in k bs = omega arith in
    rw (low, high, spelled-number k bs (rest_bytes b bs h) (omega arith))

pub number_below : (k : ℕ) (bs : List ℕ) → AllBytes bs → number_in k bs < 256 ^ k
unfolding number_in
number_below zero bs h = omega arith
number_below (suc k) [] h = omega (arith, pow-suc 256 k, pow_pos' k)
number_below (suc k) (b ∷ bs) h = omega (arith, pow-suc 256 k, h 0, number_below k bs (rest_bytes b bs h))

-- reading what was written
pub number_spelled : (k n : ℕ) (more : List ℕ) → n < 256 ^ k → number_in k (spelled k n ++ more) ≡ n
unfolding spelled number_in
number_spelled zero n more h = omega arith
number_spelled (suc k) n more h = omega (arith, number_spelled k (n / 256) more (omega (arith, pow-suc 256 k)))

pub bytes_spelled : (k n : ℕ) → AllBytes (spelled k n)
unfolding spelled
bytes_spelled zero n i = omega arith
bytes_spelled (suc k) n zero = omega arith
bytes_spelled (suc k) n (suc i) = bytes_spelled k (n / 256) i

-- what lies behind the number is not looked at
pub number-front : (k : ℕ) (xs ys : List ℕ) → k ≤ length xs → number_in k (xs ++ ys) ≡ number_in k xs
unfolding number_in
number-front zero xs ys h = refl
number-front (suc k) [] ys h = absurd (omega arith)
number-front (suc k) (x ∷ xs) ys h = ap (λ n. x + 256 * n) (number-front k xs ys (omega arith))
