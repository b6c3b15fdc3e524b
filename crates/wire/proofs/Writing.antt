-- Bytes put into a row of bytes, one after the other. Assumes nothing.
use Rattle.std.proofs.Common.{◌≡◌, ℕ, suc, ◌+◌, ◌*◌, ◌/◌, ◌%◌, ◌<◌, ◌≤◌, List, [], ◌∷◌, ◌++◌, length, get_or, take, drop, set, sym, refl, ap, ◌∙◌, add-zero, arith}
use borrow.Rule.Slice.PartMut.{put_mid}
use Rattle.std.proofs.lemmas.List.{append_assoc, append-nil, drop-drop, take_at, drop_at, take-append-drop, length-append, length-take-le, length-drop, set_split, take_more}
use Rattle.std.proofs.lemmas.Grind.{flat_map-append}
use Rattle.std.proofs.Math.Nat.{mul-le-mul_left, mul-suc}
use Rattle.auction.specs.Bids.{Bids}
use Rattle.bundles.specs.Offers.{meant, all_meant}
use Rattle.bundles.specs.declared.Bid.{Bid as Value}
use Rattle.bundles.proofs.Sets.{mask_bits}
use Rattle.wire.specs.Sizes.{length-spelled}
use Rattle.wire.specs.Bytes.{Written, all_bytes, spelled, bids_bytes, put}

-- the bytes of a number as `to_le_bytes` gives them
pub spelled_2 : (n : ℕ) → n % 256 ∷ n / 256 % 256 ∷ [] ≡ spelled 2 n
unfolding spelled
spelled_2 n = refl

pub spelled_4 : (n : ℕ) → n % 256 ∷ n / 256 % 256 ∷ n / 65536 % 256 ∷ n / 16777216 % 256 ∷ [] ≡ spelled 4 n
unfolding spelled
spelled_4 n =
    let two : n / 65536 ≡ n / 256 / 256 = omega arith in
    let three : n / 16777216 ≡ n / 256 / 256 / 256 = omega arith in rw (two, three)

pub spelled_8 : (n : ℕ) → n % 256 ∷ n / 256 % 256 ∷ n / 65536 % 256 ∷ n / 16777216 % 256 ∷ n / 4294967296 % 256 ∷ n / 1099511627776 % 256 ∷ n / 281474976710656 % 256 ∷ n / 72057594037927936 % 256 ∷ [] ≡ spelled 8 n
unfolding spelled
spelled_8 n =
    let two : n / 65536 ≡ n / 256 / 256 = omega arith in
    let three : n / 16777216 ≡ n / 256 / 256 / 256 = omega arith in
    let four : n / 4294967296 ≡ n / 256 / 256 / 256 / 256 = omega arith in
    let five : n / 1099511627776 ≡ n / 256 / 256 / 256 / 256 / 256 = omega arith in
    let six : n / 281474976710656 ≡ n / 256 / 256 / 256 / 256 / 256 / 256 = omega arith in
    let seven : n / 72057594037927936 ≡ n / 256 / 256 / 256 / 256 / 256 / 256 / 256 = omega arith in
    rw (two, three, four, five, six, seven)

-- a part of the row is written over
pub put_part : (at k : ℕ) (xs ys bs : List ℕ) → ys ≡ bs → k ≡ length bs → put_mid at k xs ys ≡ put xs at bs
unfolding put
put_part at k xs ys bs e n = rw (e, n, drop-drop (length bs) at xs)

-- a number of k bytes is written over a part of the row
pub put_number : (at k n m : ℕ) (xs ys bs : List ℕ) → ys ≡ bs → bs ≡ spelled k n → m ≡ k → put_mid at m xs ys ≡ put xs at (spelled k n)
put_number at k n m xs ys bs e s size = put_part at m xs ys (spelled k n) (e ∙ s) (size ∙ sym (length-spelled k n))

pub put-none : (xs : List ℕ) (at : ℕ) → put xs at [] ≡ xs
unfolding put
put-none xs at = rw add-zero (take-append-drop at xs)

pub length-put : (xs : List ℕ) (at : ℕ) (bs : List ℕ) → at + length bs ≤ length xs → length (put xs at bs) ≡ length xs
unfolding put
length-put xs at bs h =
    omega (arith, length-append (take at xs) (bs ++ drop (at + length bs) xs), length-append bs (drop (at + length bs) xs), length-take-le at xs (omega arith), length-drop (at + length bs) xs)

-- one element is written
pub put_one : (xs : List ℕ) (at b : ℕ) → at < length xs → set xs at b ≡ put xs at (b ∷ [])
unfolding put
put_one xs at b h = let next : suc at ≡ at + 1 = omega arith in set_split xs at b h ∙ ap (λ i. take at xs ++ (b ∷ drop i xs)) next

-- two writes, one behind the other, are one
pub put-put : (xs : List ℕ) (at next : ℕ) (bs cs : List ℕ) → next ≡ at + length bs → next ≤ length xs → put (put xs at bs) next cs ≡ put xs at (bs ++ cs)
unfolding put
put-put xs at next bs cs e h =
    let front : List ℕ = take at xs ++ bs in
    let long : length front ≡ next = length-append (take at xs) bs ∙ omega (arith, length-take-le at xs (omega arith)) in
    let whole : take at xs ++ (bs ++ drop (at + length bs) xs) ≡ front ++ drop next xs = sym (append_assoc (take at xs) bs _) ∙ ap (λ i. front ++ drop i xs) (sym e) in
    let left : take next (front ++ drop next xs) ≡ front = take_at front _ next long in
    let right : drop (next + length cs) (front ++ drop next xs) ≡ drop (at + length (bs ++ cs)) xs =
    sym (drop-drop (length cs) next _) ∙ ap (drop (length cs)) (drop_at front _ next long) ∙ drop-drop (length cs) next xs ∙ ap (λ i. drop i xs) (omega (arith, length-append bs cs)) in
    rw (whole, left, right, append_assoc, append_assoc)

-- an element, and the bytes behind it
pub put-behind : (xs : List ℕ) (at next b : ℕ) (bs : List ℕ) → at < length xs → next ≡ at + 1 → put (set xs at b) next bs ≡ put xs at (b ∷ bs)
put-behind xs at next b bs h e = rw (put_one xs at b h) (put-put xs at next (b ∷ []) bs e (omega arith))

-- bids, one after the other
pub bids_bytes-append : (bs cs : Bids) → bids_bytes (bs ++ cs) ≡ bids_bytes bs ++ bids_bytes cs
unfolding bids_bytes
bids_bytes-append [] cs = refl
bids_bytes-append (b ∷ bs) cs = rw (bids_bytes-append bs cs, append_assoc, append_assoc)

pub length-bids_bytes : (bs : Bids) → length (bids_bytes bs) ≡ 6 * length bs
unfolding bids_bytes
length-bids_bytes [] = refl
length-bids_bytes (b ∷ bs) = rw (length-append, length-append, length-spelled, length-spelled, length-bids_bytes bs) (omega arith)

pub bid_bytes : (b : Value) → b.on.mask < 65536 → bids_bytes (meant b ∷ []) ≡ spelled 2 b.on.mask ++ spelled 4 b.price
unfolding bids_bytes
bid_bytes b h = rw (mask_bits 16 b.on.mask h, append-nil)

-- values of so many bytes each, one after the other
module _ {A : Type 0} (f : A → List ℕ) (size : ℕ) (as_many : (x : A) → length (f x) ≡ size) where
  pub length-all_bytes : (xs : List A) → length (all_bytes f xs) ≡ size * length xs
  length-all_bytes [] = omega arith
  length-all_bytes (x ∷ xs) = omega (arith, length-append (f x) (all_bytes f xs), as_many x, length-all_bytes xs, mul-suc size (length xs))

  pub put-all-more : (out now : List ℕ) (at place i : ℕ) (xs : List A) (x : A) → i < length xs → at + size * length xs ≤ length out → place ≡ at + size * i → x ≡ get_or xs i x
      → now ≡ put out at (all_bytes f (take i xs)) → put now place (f x) ≡ put out at (all_bytes f (take (i + 1) xs))
  put-all-more out now at place i xs x h room e is was =
      let some : length (all_bytes f (take i xs)) ≡ size * i = length-all_bytes (take i xs) ∙ ap (λ n. size * n) (length-take-le i xs (omega arith)) in
      let there : size * i ≤ size * length xs = mul-le-mul_left size (omega arith) in
      let more : take (i + 1) xs ≡ take i xs ++ x ∷ [] = take_more xs i x h ∙ ap (λ y. take i xs ++ y ∷ []) (sym is) in
      rw was (put-put out at place (all_bytes f (take i xs)) (f x) (omega arith) (omega arith)
      ∙ ap (put out at) (sym (flat_map-append f (take i xs) (x ∷ []) ∙ ap (λ l. all_bytes f (take i xs) ++ l) (append-nil (f x))) ∙ ap (all_bytes f) (sym more)))

  -- a byte, and the values behind it
  pub written-behind : (out two : List ℕ) (kind byte n : ℕ) (xs : List A) → byte ≡ kind → n ≡ 1 + size * length xs → n ≤ length out → two ≡ put (set out 0 byte) 1 (all_bytes f xs)
      → Written out two n (kind ∷ all_bytes f xs)
  written-behind out two kind byte n xs same e room is = record {
    bytes = is ∙ put-behind out 0 1 byte (all_bytes f xs) (omega arith) refl ∙ ap (λ k. put out 0 (k ∷ all_bytes f xs)) same;
    len = omega (arith, length-all_bytes xs);
  }

-- the bytes of bids are those of each, one after the other
pub bids_bytes-all : (bs : List Value) → all_bytes (λ b. bids_bytes (meant b ∷ [])) bs ≡ bids_bytes (all_meant bs)
unfolding bids_bytes
bids_bytes-all [] = refl
bids_bytes-all (b ∷ bs) = rw (bids_bytes-all bs, append_assoc, append-nil)
