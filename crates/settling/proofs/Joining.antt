-- Sets of pieces as numbers: one within another, and joined. Assumes nothing.
use Rattle.std.proofs.Common.{◌≡◌, ℕ, zero, suc, ◌+◌, ◌^◌, ◌<◌, ◌≤◌, Bool, true, false, ◌&&◌, not, eqb, ◌⊎◌, List, [], ◌∷◌, ◌++◌, map, length, get_or, sym, refl, ap, ap₂, ◌∙◌, subst, inl, inr, pow-suc, pow_mono, arith}
use lib.Bits.{bit_and, bit_or, and_zero_l, and_comm, or_comm, or_zero_r, or_zero_l}
use Rattle.std.proofs.lemmas.Nat.{and_assoc, and_or_self}
use Rattle.std.proofs.lemmas.Nat.Bits.{same_from_bits, bit_at_and, bit_at_or}
use Rattle.std.specs.Int.{bit_at}
use Rattle.std.specs.List.{list_all}
use Rattle.std.proofs.lemmas.List.{get_or_past, length-map}
use Rattle.bundles.specs.Rows.{Row, held}
use Rattle.std.proofs.lemmas.Bool.{cases_eq, eq-eqb, eqb-true, ne_eqb}
use Rattle.std.proofs.lemmas.Bool.Decides.{nat_tests}
use Rattle.auction.specs.Laws.{touches}
use Rattle.auction.specs.Bids.{within}
use Rattle.bundles.specs.Masks.{bits, union}
use Rattle.bundles.proofs.Sets.{or_bits, same_mask, touch_bits, within-bits}
use Rattle.bundles.specs.declared.Bid.{Bid}
use Rattle.bundles.specs.declared.Bundle.{Bundle}
use Rattle.settling.specs.Groups.{In, want, wants}

pub in_trans : (x y z : ℕ) → In x y → In y z → In x z
in_trans x y z p q = ap (λ (t : ℕ). bit_and t z) (sym p) ∙ and_assoc z x y ∙ ap (bit_and x) q ∙ p

-- each of two is within both joined
pub in_joined : (m w : ℕ) → In w (bit_or m w)
in_joined m w = and_comm w (bit_or m w) ∙ and_or_self w m

pub in_joined_left : (m w : ℕ) → In m (bit_or m w)
in_joined_left m w = ap (bit_and m) (or_comm m w) ∙ in_joined w m

-- both within is joined within
pub joined_in : (a b c : ℕ) → In a c → In b c → In (bit_or a b) c
joined_in a b c p q = same_from_bits _ _ (λ i. omega (arith, bit_at_and (bit_or a b) c i, bit_at_or a b i, bit_at_and a c i, bit_at_and b c i, ap (λ (x : ℕ). bit_at x i) p, ap (λ (x : ℕ). bit_at x i) q))

-- what is apart from two sets is apart from both joined
pub joined_apart : (w a b : ℕ) → bit_and w a ≡ 0 → bit_and w b ≡ 0 → bit_and w (bit_or a b) ≡ 0
joined_apart w a b p q = same_from_bits _ _ (λ i. omega (arith, bit_at_and w (bit_or a b) i, bit_at_or a b i, bit_at_and w a i, bit_at_and w b i, ap (λ (x : ℕ). bit_at x i) p, ap (λ (x : ℕ). bit_at x i) q))

or-assoc : (a b c : ℕ) → bit_or (bit_or a b) c ≡ bit_or a (bit_or b c)
or-assoc a b c = same_from_bits _ _ (λ i. omega (arith, bit_at_or (bit_or a b) c i, bit_at_or a b i, bit_at_or a (bit_or b c) i, bit_at_or b c i))

-- what the methods of a set answer, of masks
pub below_power : (n : ℕ) → n < 2 ^ n
below_power zero = omega arith
below_power (suc n) = omega (arith, below_power n, pow-suc 2 n)

pub joined_is : (a b r : ℕ) → ((n : ℕ) → bits n r ≡ union (bits n a) (bits n b)) → r ≡ bit_or a b
joined_is a b r e =
    let c = bit_or a b in
    let n = r + c in
    let r-le : r ≤ n = omega arith in
    let c-le : c ≤ n = omega arith in
    same_mask n r c (omega (arith, below_power r, pow_mono r-le)) (omega (arith, below_power c, pow_mono c-le)) (e n ∙ sym (or_bits n a b))

pub shared_is : (a b : ℕ) {t : Bool} → ((k n : ℕ) → a < 2 ^ k → b < 2 ^ n → t ≡ touches (bits k a) (bits n b)) → t ≡ not (eqb (bit_and a b) 0)
shared_is a b e = e a b (below_power a) (below_power b) ∙ sym (touch_bits a b a b (below_power a) (below_power b))

pub apart_is : (a b : ℕ) {t : Bool} → ((k n : ℕ) → a < 2 ^ k → b < 2 ^ n → t ≡ touches (bits k a) (bits n b)) → t ≡ false → bit_and a b ≡ 0
apart_is a b e away = go (cases_eq (bit_and a b) 0)
  where
    go : (bit_and a b ≡ 0) ⊎ (bit_and a b ≡ 0 → ⊥) → bit_and a b ≡ 0
    go (inl none) = none
    go (inr some) = let z : ◌≡◌ {A = Bool} false true = sym away ∙ shared_is a b e ∙ ap not (ne_eqb (bit_and a b) 0 some) in cc

pub within_is : (a b : ℕ) {t : Bool} → ((k n : ℕ) → a < 2 ^ k → b < 2 ^ n → t ≡ within (bits k a) (bits n b)) → t ≡ eqb (bit_and a b) a
within_is a b e = e a b (below_power a) (below_power b) ∙ sym (within-bits a b a b (below_power a) (below_power b))

-- one bid more at the end
pub wants-more : (bids : List Bid) (b : Bid) → wants (bids ++ b ∷ []) ≡ bit_or (wants bids) b.on.mask
unfolding wants
wants-more [] b = or_zero_r b.on.mask ∙ sym (or_zero_l b.on.mask)
wants-more (c ∷ bids) b = ap (bit_or c.on.mask) (wants-more bids b) ∙ sym (or-assoc c.on.mask (wants bids) b.on.mask)

pub wants-none : wants [] ≡ 0
unfolding wants
wants-none = refl

-- where there is no bidder nothing is wanted
pub wants_past : (rows : List Row) (i : ℕ) → length rows ≤ i → 0 ≡ wants (get_or (map held rows) i [])
wants_past rows i le = sym (ap wants (get_or_past (map held rows) i [] (omega (arith, length-map rows held))) ∙ wants-none)

-- so far all bidders below this one are looked at
pub record Growing (ws : List Bundle) (all pieces i more : ℕ) : Type 0 where
  pub has : In pieces more
  pub within : In more all
  pub joins : (j : ℕ) → j < i → (bit_and (want ws j) pieces ≡ 0) ⊎ In (want ws j) more

module _ (ws : List Bundle) (all pieces i more : ℕ) (g : Growing ws all pieces i more) where
  pub growing_past : bit_and (want ws i) pieces ≡ 0 → Growing ws all pieces (i + 1) more
  growing_past e = record { has = g.has; within = g.within; joins = λ j h. at j h (cases_eq j i) }
    where
      at : (j : ℕ) → j < i + 1 → (j ≡ i) ⊎ (j ≡ i → ⊥) → (bit_and (want ws j) pieces ≡ 0) ⊎ In (want ws j) more
      at j h (inl same) = inl (ap (λ (k : ℕ). bit_and (want ws k) pieces) same ∙ e)
      at j h (inr ne) = g.joins j (omega arith)

  pub growing_join : In (want ws i) all → Growing ws all pieces (i + 1) (bit_or more (want ws i))
  growing_join inside = record { has = in_trans pieces more _ g.has (in_joined_left more (want ws i)); within = joined_in more (want ws i) all g.within inside; joins = λ j h. at j h (cases_eq j i) }
    where
      wider : (j : ℕ) → (bit_and (want ws j) pieces ≡ 0) ⊎ In (want ws j) more → (bit_and (want ws j) pieces ≡ 0) ⊎ In (want ws j) (bit_or more (want ws i))
      wider j (inl away) = inl away
      wider j (inr there) = inr (in_trans (want ws j) more _ there (in_joined_left more (want ws i)))

      at : (j : ℕ) → j < i + 1 → (j ≡ i) ⊎ (j ≡ i → ⊥) → (bit_and (want ws j) pieces ≡ 0) ⊎ In (want ws j) (bit_or more (want ws i))
      at j h (inl same) = let P : ℕ → Type 0 = λ k. In (want ws k) (bit_or more (want ws i)) in inr (subst P (sym same) (in_joined more (want ws i)))
      at j h (inr ne) = wider j (g.joins j (omega arith))

-- all are within, by the test of each
pub all_in : (ws : List Bundle) (all : ℕ) → list_all (λ (w : Bundle). eqb (bit_and w.mask all) w.mask) ws ≡ true → (j : ℕ) → In (want ws j) all
all_in [] all e j = and_zero_l all
all_in (w ∷ ws) all e zero = eqb-true (bit_and w.mask all) w.mask (and_left (eqb (bit_and w.mask all) w.mask) _ e)
  where
    and_left : (a b : Bool) → (a && b) ≡ true → a ≡ true
    and_left a b e = grind (arith, nat_tests)
all_in (w ∷ ws) all e (suc j) = all_in ws all (and_right (eqb (bit_and w.mask all) w.mask) _ e) j
  where
    and_right : (a b : Bool) → (a && b) ≡ true → b ≡ true
    and_right a b e = grind (arith, nat_tests)

pub in_all : (ws : List Bundle) (all : ℕ) → ((j : ℕ) → In (want ws j) all) → list_all (λ (w : Bundle). eqb (bit_and w.mask all) w.mask) ws ≡ true
in_all [] all h = refl
in_all (w ∷ ws) all h = ap₂ (λ (a b : Bool). a && b) (eq-eqb (bit_and w.mask all) w.mask (h 0)) (in_all ws all (λ j. h (suc j)))
