-- Pieces moved together, from the highest place on. Assumes nothing.
use Rattle.std.proofs.Common.{map, ◌^◌, ◌≡◌, ℕ, ◌+◌, ◌-◌, ◌*◌, ◌<◌, ◌≤◌, Bool, true, false, cond, [], ◌∷◌, length, get_or, drop, sym, refl, ap, ◌∙◌, ap₂, add_comm, zero-add, arith, pow_mono}
use Rattle.std.proofs.lemmas.List.{drop_all, drop_more, length-drop}
use mir.Val.{bool_byte}
use lib.Lanes.{mask_l}
use Rattle.std.specs.Prelude.{count_ones}
use Rattle.std.proofs.lemmas.Simd.{ones-mask_l}
use Rattle.std.proofs.lemmas.List.Sums.{sum_by-cons}
use Rattle.auction.specs.Bids.{Some, pick}
use Rattle.auction.specs.Faster.{packed, how_many}
use Rattle.bundles.specs.Masks.{bits, mask_of}
use Rattle.bundles.proofs.Picks.{pick_yes, pick_no}
use Rattle.bundles.proofs.Sets.{mask_bits, length-bits, mask_below}

-- what there is from a place on, as a number
abbrev pub packed_from : ℕ → ℕ → ℕ → ℕ
packed_from places set p = mask_of (packed (drop p (bits 16 places)) (drop p (bits 16 set)))

length-packed : (m s : Some) → length (packed m s) ≤ length m
unfolding packed
length-packed [] s = omega arith
length-packed (true ∷ m) [] = omega (arith, length-packed m [])
length-packed (true ∷ m) (x ∷ s) = omega (arith, length-packed m s)
length-packed (false ∷ m) [] = omega (arith, length-packed m [])
length-packed (false ∷ m) (x ∷ s) = omega (arith, length-packed m s)

head_packed : (x y : Bool) (m s : Some) → mask_of (packed (x ∷ m) (y ∷ s)) ≡ pick x (2 * mask_of (packed m s) + pick y 1 0) (mask_of (packed m s))
unfolding packed mask_of
head_packed true y m s = omega arith
head_packed false y m s = refl

pub head_many : (x : Bool) (m : Some) → how_many (x ∷ m) ≡ pick x (how_many m + 1) (how_many m)
head_many true m = sum_by-cons (λ (x : Bool). cond x 1 0) true m ∙ add_comm 1 (how_many m)
head_many false m = sum_by-cons (λ (x : Bool). cond x 1 0) false m ∙ zero-add (how_many m)

module _ (places set p : ℕ) (lt : p < 16) where
  drop_bits : (m : ℕ) → drop p (bits 16 m) ≡ get_or (bits 16 m) p false ∷ drop (p + 1) (bits 16 m)
  drop_bits m = drop_more (bits 16 m) p false (omega (arith, length-bits 16 m))

  pub packed_more : packed_from places set p ≡ pick (get_or (bits 16 places) p false) (2 * packed_from places set (p + 1) + pick (get_or (bits 16 set) p false) 1 0) (packed_from places set (p + 1))
  packed_more = ap₂ (λ (m s : Some). mask_of (packed m s)) (drop_bits places) (drop_bits set) ∙ head_packed _ _ _ _

  pub packed_small : packed_from places set (p + 1) < 32768
  packed_small =
      let s : Some = packed (drop (p + 1) (bits 16 places)) (drop (p + 1) (bits 16 set)) in
      let short : length s ≤ 15 = omega (arith, length-packed (drop (p + 1) (bits 16 places)) (drop (p + 1) (bits 16 set)), length-drop (p + 1) (bits 16 places), length-bits 16 places) in
      omega (arith, mask_below s, pow_mono short)

pub packed_none : (places set : ℕ) → 0 ≡ packed_from places set 16
unfolding packed mask_of
packed_none places set = ap (λ (m : Some). mask_of (packed m (drop 16 (bits 16 set)))) (sym (drop_all 16 (bits 16 places) (omega (arith, length-bits 16 places))))

-- a bit as a number
pub bit_is : (b : Bool) → bool_byte b ≡ pick b 1 0
bit_is true = refl
bit_is false = refl

pub bit_small : (b : Bool) → bool_byte b ≤ 1
bit_small true = omega arith
bit_small false = omega arith

-- a turn of the loop, at one place less: the place is there, or it is not
module _ (places i : ℕ) (some : 0 < i) (few : i ≤ 16) where
  back : i - 1 + 1 ≡ i
  back = omega arith

  pub packed_there : (set mask bit : ℕ) → mask ≡ packed_from places set i → true ≡ get_or (bits 16 places) (i - 1) false → bit ≡ bool_byte (get_or (bits 16 set) (i - 1) false) →
      2 * mask + bit ≡ packed_from places set (i - 1)
  packed_there set mask bit e there is =
      sym (packed_more places set (i - 1) (omega arith) ∙ pick_yes _ _ (sym there)
      ∙ ap₂ (λ (x y : ℕ). 2 * x + y) (ap (packed_from places set) back ∙ sym e) (sym (is ∙ bit_is _)))

  pub packed_gone : (set mask : ℕ) → mask ≡ packed_from places set i → false ≡ get_or (bits 16 places) (i - 1) false → mask ≡ packed_from places set (i - 1)
  packed_gone set mask e gone = sym (packed_more places set (i - 1) (omega arith) ∙ pick_no _ _ (sym gone) ∙ ap (packed_from places set) back ∙ sym e)

  pub mask_small : (set mask : ℕ) → mask ≡ packed_from places set i → mask < 32768
  mask_small set mask e = omega (arith, e, ap (packed_from places set) back, packed_small places set (i - 1) (omega arith))

-- the ones of a mask are the pieces of its set
mask_l-is : (s : Some) → mask_l (map (λ x. x) s) ≡ mask_of s
unfolding mask_of
mask_l-is [] = refl
mask_l-is (true ∷ s) = ap (λ (n : ℕ). 1 + 2 * n) (mask_l-is s)
mask_l-is (false ∷ s) = ap (λ (n : ℕ). 0 + 2 * n) (mask_l-is s)

pub ones_are_pieces : (n m : ℕ) → m < 2 ^ n → count_ones m ≡ how_many (bits n m)
ones_are_pieces n m h = ap count_ones (sym (mask_l-is (bits n m) ∙ mask_bits n m h)) ∙ ones-mask_l (λ (x : Bool). x) (bits n m)
