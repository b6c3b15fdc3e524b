-- What the others could have had without a bidder, from the table of those before it and of those behind it. Assumes nothing.
use Rattle.std.proofs.Common.{◌≡◌, ℕ, zero, suc, ◌+◌, ◌-◌, ◌/◌, ◌^◌, ◌<◌, ◌≤◌, true, List, [], length, take, drop, sym, ap, ◌∙◌, subst, ap₂, pow-suc, arith}
use lib.Bits.{bit_and, and_comm, and_le_l, and_step, and_zero_l}
use Rattle.std.proofs.lemmas.Bool.{eq-eqb, eqb-true}
use Rattle.auction.specs.Bids.{Some, Bids, less, within, best, without}
use Rattle.auction.specs.Faster.{Joined as Parted}
use Rattle.auction.proofs.Best.{best_mono}
use Rattle.auction.proofs.Joined.{joined}
use Rattle.auction.proofs.Sets.{less-nothing, less_back, less-within, within_back, length-less}
use Rattle.bundles.specs.Masks.{bits, mask_of}
use Rattle.bundles.proofs.Sets.{less-bits, within-bits, bits_mask, mask_below, length-bits}
use Rattle.solver.specs.Tables.{table_words, Holds}
use Rattle.solver.specs.Paying.{together, Joined}

-- what a set has of what a set has
and_again : (k w s : ℕ) → w < 2 ^ k → bit_and w (bit_and w s) ≡ bit_and w s
and_again zero w s h = let none : w ≡ 0 = omega arith in rw (none, and_zero_l)
and_again (suc k) w s h =
    let half : bit_and w s / 2 ≡ bit_and (w / 2) (s / 2) = omega (arith, and_step w s) in
    let upper : bit_and (w / 2) (bit_and w s / 2) ≡ bit_and (w / 2) (s / 2) = rw half (and_again k (w / 2) (s / 2) (omega (arith, pow-suc 2 k))) in
    omega (arith, and_step w (bit_and w s), and_step w s)

-- of n pieces, every set is that of some number
numbered : (n : ℕ) (s : Some) → length s ≡ n → bits n (mask_of s) ≡ s
numbered n s e = ap (λ (k : ℕ). bits k (mask_of s)) (sym e) ∙ bits_mask s

module _ (a b : List ℕ) (n w : ℕ) (bss : List Bids) (i most : ℕ) (hw : w < 2 ^ n) (long : length a ≡ table_words n) (front : Holds a n (best (take i bss))) (back : Holds b n (best (drop (i + 1) bss))) (j : Joined a b w most) where
  part_small : (s : ℕ) → bit_and w s < 2 ^ n
  part_small s = omega (arith, and_le_l w s)

  part_within : (s : ℕ) → within (bits n (bit_and w s)) (bits n w) ≡ true
  part_within s =
      sym (within-bits n n (bit_and w s) w (part_small s) hw) ∙ eq-eqb (bit_and (bit_and w s) w) (bit_and w s) (and_comm (bit_and w s) w ∙ and_again n w s hw)

  parted : (s : ℕ) → together a b w s ≡ best (take i bss) (bits n (bit_and w s)) + best (drop (i + 1) bss) (less (bits n w) (bits n (bit_and w s)))
  parted s =
      let left = less-bits n n w (bit_and w s) (w - bit_and w s) (part_small s) (omega (arith, and_again n w s hw, and_le_l w s)) in
      ap₂ (λ (x y : ℕ). x + y) (front.sums (bit_and w s) (part_small s)) (back.sums (w - bit_and w s) (omega arith) ∙ ap (best (drop (i + 1) bss)) left)

  at_most : most ≤ best (without bss i) (bits n w)
  unfolding Parted
  at_most =
      let s = j.some.0 in
      omega (arith, j.some.2, parted s, (joined bss i (bits n w)).0 (bits n (bit_and w s)) (part_within s))

  -- the way to part them that comes to as much is by a set of these pieces
  at_least : best (without bss i) (bits n w) ≤ most
  unfolding Parted
  at_least =
      let way = (joined bss i (bits n w)).1 in
      let s = way.0 in
      let r = less (bits n w) (less (bits n w) s) in
      let many : length r ≡ n = length-less (bits n w) (less (bits n w) s) ∙ length-bits n w in
      let B : ℕ → Type 0 = λ k. mask_of r < 2 ^ k in
      let small : mask_of r < 2 ^ n = subst B many (mask_below r) in
      let set = numbered n r many in
      let inside : within (bits n (mask_of r)) (bits n w) ≡ true = ap (λ (x : Some). within x (bits n w)) set ∙ less-within (bits n w) (less (bits n w) s) in
      let mine : bit_and w (mask_of r) ≡ mask_of r = and_comm w (mask_of r) ∙ eqb-true (bit_and (mask_of r) w) (mask_of r) (within-bits n n (mask_of r) w small hw ∙ inside) in
      let more = best_mono (take i bss) s r (within_back s (bits n w) way.1) in
      let same : less (bits n w) r ≡ less (bits n w) s = ap (λ (x : Some). less (bits n w) (less (bits n w) (less x s))) (sym (less-nothing (bits n w))) ∙ less_back (bits n w) [] s ∙ ap (λ (x : Some). less x s) (less-nothing (bits n w)) in
      let here : together a b w (mask_of r) ≡ best (take i bss) r + best (drop (i + 1) bss) (less (bits n w) s) =
      parted (mask_of r) ∙ ap (λ (x : Some). best (take i bss) x + best (drop (i + 1) bss) (less (bits n w) x)) (ap (bits n) mine ∙ set) ∙ ap (λ (x : Some). best (take i bss) r + best (drop (i + 1) bss) x) same in
      omega (arith, j.none_more (mask_of r) (omega (arith, small, long)), here, way.2, more)

  pub others_is : most ≡ best (without bss i) (bits n w)
  others_is = omega (arith, at_most, at_least)
