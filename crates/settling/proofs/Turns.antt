-- Going from bidder to bidder: alone, in a group that is settled already, or in one that is settled now. Assumes nothing.
use Rattle.std.proofs.Common.{◌≡◌, ℕ, zero, suc, ◌+◌, ◌*◌, ◌/◌, ◌%◌, ◌^◌, ◌<◌, ◌≤◌, Bool, true, false, not, eqb, ◌≢◌, ◌⊎◌, List, length, replicate, set, sym, refl, ap, ◌∙◌, subst, inl, inr, mul-le-mul_left, pow-suc, arith}
use native.Mathlib.Nat.{pow-le-pow_right}
use lib.Bits.{bit_and, bit_or, and_zero_r}
use Rattle.std.proofs.lemmas.List.{get_or_past, get_or-replicate, get_or-set_other, length-set}
use Rattle.std.proofs.lemmas.Bool.{cases_Bool, cases_eq, cases_lt, eq-eqb, ne_eqb}
use Rattle.std.proofs.lemmas.Bool.Decides.{nat_tests}
use Rattle.auction.specs.Bids.{Some, pick}
use Rattle.auction.specs.Faster.{how_many}
use Rattle.bundles.specs.Masks.{bits}
use Rattle.bundles.specs.Rows.{Row, all_held}
use Rattle.bundles.specs.declared.Bundle.{Bundle}
use Rattle.solver.specs.Paying.{RoomToPay, nothing_taken}
use Rattle.solver.specs.Sharing.{RightShare}
use Rattle.solver.specs.declared.outcome.Share.{Share}
use Rattle.solver.proofs.Supersets.{upper_held}
use Rattle.settling.specs.Apart.{WithGroup}
use Rattle.settling.specs.Groups.{In, want, member, GroupPieces}
use Rattle.settling.specs.Packs.{places_in}
use Rattle.settling.proofs.Aparts.{contra, share_of, set_right}
use Rattle.settling.proofs.Joining.{joined_apart}
use Rattle.settling.proofs.Packs.{head_many}

-- a set of numbers below 2 ^ n has n pieces at most
many_below : (j n m : ℕ) → m < 2 ^ n → how_many (bits j m) ≤ n
unfolding bits
many_below zero n m h = omega arith
many_below (suc j) zero m h =
    let none : m ≡ 0 = omega arith in
    let even : m % 2 ≡ 0 = omega arith in
    omega (arith, head_many (eqb (m % 2) 1) (bits j (m / 2)), many_below j zero (m / 2) (omega arith), odd_even (m % 2) even (how_many (bits j (m / 2))))
  where
    odd_even : (x : ℕ) → x ≡ 0 → (y : ℕ) → pick (eqb x 1) (y + 1) y ≡ y
    odd_even x e y = grind (arith, nat_tests)
many_below (suc j) (suc n) m h =
    omega (arith, head_many (eqb (m % 2) 1) (bits j (m / 2)), many_below j n (m / 2) (omega (arith, pow-suc 2 n)), at_most_one (eqb (m % 2) 1) (how_many (bits j (m / 2))))
  where
    at_most_one : (t : Bool) (y : ℕ) → pick t (y + 1) y ≤ y + 1
    at_most_one true y = omega arith
    at_most_one false y = omega arith

-- nor has a set more than one that holds it
many_within : (j m w : ℕ) → In m w → how_many (bits j m) ≤ how_many (bits j w)
unfolding bits
many_within zero m w e = omega arith
many_within (suc j) m w e =
    let u = upper_held m w e in
    omega (
      arith,
      head_many (eqb (m % 2) 1) (bits j (m / 2)),
      head_many (eqb (w % 2) 1) (bits j (w / 2)),
      step (m % 2) (w % 2) u.1 (omega arith) (omega arith) (how_many (bits j (m / 2))) (how_many (bits j (w / 2))) (many_within j (m / 2) (w / 2) u.0),
    )
  where
    step : (x y : ℕ) → x ≤ y → x < 2 → y < 2 → (a b : ℕ) → a ≤ b → pick (eqb x 1) (a + 1) a ≤ pick (eqb y 1) (b + 1) b
    step x y le hx hy a b h = grind (arith, nat_tests)

-- tables over fewer pieces are no larger
room_for_fewer : (len n k b : ℕ) → k ≤ n → RoomToPay len n b → RoomToPay len k b
room_for_fewer len n k b few room =
    let less : 2 ^ k ≤ 2 ^ n = pow-le-pow_right (omega arith) few in
    record { few_pieces = omega (arith, room.few_pieces); few_bidders = room.few_bidders; words = omega (arith, mul-le-mul_left (b + 3) (double less), room.words) }
  where
    double : 2 ^ k ≤ 2 ^ n → 2 * 2 ^ k ≤ 2 * 2 ^ n
    double le = omega arith

pub room_for_set : (len n b m : ℕ) → m < 2 ^ n → RoomToPay len n b → RoomToPay len (places_in m) b
room_for_set len n b m h = room_for_fewer len n (places_in m) b (many_below 16 n m h)

pub room_for_group : (len b m w : ℕ) → In m w → RoomToPay len (places_in w) b → RoomToPay len (places_in m) b
room_for_group len b m w e = room_for_fewer len (places_in w) (places_in m) b (many_within 16 m w e)

-- so far
pub record Turning (rows : List Row) (ws : List Bundle) (free : Some) (ss : List Share) (i done : ℕ) : Type 0 where
  pub long : length ss ≡ 32
  pub before : (j : ℕ) → j < i → RightShare (all_held rows) free j (share_of ss j)
  pub grouped : (j : ℕ) → j < length rows → member ws done j ≡ true → RightShare (all_held rows) free j (share_of ss j)
  pub behind : (j : ℕ) → length rows ≤ j → share_of ss j ≡ nothing_taken

pub turning_none : (rows : List Row) (ws : List Bundle) (free : Some) → Turning rows ws free (replicate 32 nothing_taken) 0 0
turning_none rows ws free =
    record {
      long = refl;
      before = λ j h. absurd (omega arith);
      grouped = λ j h g. contra (ap not (eq-eqb (bit_and (want ws j) 0) 0 (and_zero_r (want ws j)))) g;
      behind = λ j h. none j (cases_lt j 32);
    }
  where
    none : (j : ℕ) → (j < 32) ⊎ (32 ≤ j) → share_of (replicate 32 nothing_taken) j ≡ nothing_taken
    none j (inl lt) = get_or-replicate 32 j nothing_taken nothing_taken lt
    none j (inr le) = get_or_past (replicate 32 nothing_taken) j nothing_taken le

module _ (rows : List Row) (ws : List Bundle) (free : Some) (ss : List Share) (i done : ℕ) (lt : i < length rows) (few : length rows ≤ 32) (t : Turning rows ws free ss i done) where
  -- alone
  pub turning_alone : (s : Share) → RightShare (all_held rows) free i s → Turning rows ws free (set ss i s) (i + 1) done
  turning_alone s right =
      record {
        long = length-set ss i s ∙ t.long;
        before = λ j h. set_right (all_held rows) free ss i s there right j (λ ne. t.before j (omega arith));
        grouped = λ j h g. set_right (all_held rows) free ss i s there right j (λ ne. t.grouped j h g);
        behind = λ j h. get_or-set_other ss i j s nothing_taken (λ e. omega arith) ∙ t.behind j h;
      }
    where
      there : i < length ss
      there = omega (arith, t.long)

  -- in a group that is settled
  pub turning_past : member ws done i ≡ true → Turning rows ws free ss (i + 1) done
  turning_past there = record { long = t.long; before = λ j h. at j (cases_eq j i) h; grouped = t.grouped; behind = t.behind }
    where
      at : (j : ℕ) → (j ≡ i) ⊎ (j ≡ i → ⊥) → j < i + 1 → RightShare (all_held rows) free j (share_of ss j)
      at j (inl e) h = let P : ℕ → Type 0 = λ k. RightShare (all_held rows) free k (share_of ss k) in subst P (sym e) (t.grouped i lt there)
      at j (inr ne) h = t.before j (omega arith)

  -- in one that is settled now
  pub turning_group : (m all : ℕ) (rs : List Share) → length rs ≡ 32 → want ws i ≢ 0 → GroupPieces ws all (want ws i) m → WithGroup rows ws m free ss rs → Turning rows ws free rs (i + 1) (bit_or done m)
  turning_group m all rs long wants-some g w =
      record {
        long = long;
        before = λ j h. before j h (cases_eq j i);
        grouped = λ j h y. right j h (λ away. t.grouped j h (still j y away)) (cases_Bool (member ws m j));
        behind = λ j h. w.others j (inl h) ∙ t.behind j h;
      }
    where
      right : (j : ℕ) → j < length rows → (member ws m j ≡ false → RightShare (all_held rows) free j (share_of ss j)) → (member ws m j ≡ true) ⊎ (member ws m j ≡ false) → RightShare (all_held rows) free j (share_of rs j)
      right j h was (inl mine) = w.members j h mine
      right j h was (inr away) = let P : Share → Type 0 = λ x. RightShare (all_held rows) free j x in subst P (sym (w.others j (inr away))) (was away)

      mine : member ws m i ≡ true
      mine = ap not (ne_eqb (bit_and (want ws i) m) 0 (λ e. wants-some (sym g.has ∙ e)))

      before : (j : ℕ) → j < i + 1 → (j ≡ i) ⊎ (j ≡ i → ⊥) → RightShare (all_held rows) free j (share_of rs j)
      before j h (inl e) = let P : ℕ → Type 0 = λ k. RightShare (all_held rows) free k (share_of rs k) in subst P (sym e) (w.members i lt mine)
      before j h (inr ne) = right j (omega arith) (λ away. t.before j (omega arith)) (cases_Bool (member ws m j))

      zero_of : (x : ℕ) → not (eqb x 0) ≡ false → x ≡ 0
      zero_of x e = grind (arith, nat_tests)

      still : (j : ℕ) → member ws (bit_or done m) j ≡ true → member ws m j ≡ false → member ws done j ≡ true
      still j y away = go (cases_Bool (member ws done j))
        where
          go : (member ws done j ≡ true) ⊎ (member ws done j ≡ false) → member ws done j ≡ true
          go (inl yes') = yes'
          go (inr gone) = contra (ap not (eq-eqb (bit_and (want ws j) (bit_or done m)) 0 (joined_apart (want ws j) done m (zero_of _ gone) (zero_of _ away)))) y
