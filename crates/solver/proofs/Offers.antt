-- A bid is offered to a table, set by set over those that hold it. Assumes nothing.
use Rattle.std.proofs.Common.{◌≡◌, ℕ, ◌+◌, ◌-◌, ◌/◌, ◌^◌, ◌<◌, ◌≤◌, eqb, ◌⊎◌, List, length, sym, ap, ◌∙◌, subst, ap₂, inl, inr, arith}
use lib.Bits.{bit_and, bit_or, and_comm, and_le_r}
use Rattle.std.proofs.lemmas.Bool.{cases_eq, cases_lt, eq-eqb, ne_eqb}
use Rattle.std.proofs.lemmas.Bool.Decides.{nat_tests}
use Rattle.auction.specs.Bids.{Some, Bid, larger, pick, within, less}
use Rattle.bundles.specs.Masks.{bits}
use Rattle.bundles.proofs.Sets.{within-bits, less-bits}
use Rattle.bundles.proofs.Picks.{pick_yes, pick_no}
use Rattle.solver.specs.Tables.{sum_in, table_words, Holds, Below, Put, with_bid, Offered}
use Rattle.solver.proofs.Supersets.{or_holds, next_past, next_least, below_power}

-- the larger of nothing and x
larger-none : (x : ℕ) → larger 0 x ≡ x
larger-none x = grind (arith, nat_tests)

pub larger_below : (a b x : ℕ) → a < x → b < x → larger a b < x
larger_below a b x ha hb = grind (arith, nat_tests)

-- what a set's sum becomes by a bid on the pieces of a mask
abbrev pub raised : List ℕ → List ℕ → ℕ → ℕ → ℕ → ℕ
raised from old on price s = larger (pick (eqb (bit_and on s) on) (price + sum_in from (s - on)) 0) (sum_in old s)

-- so far: all sets below this one, which holds the mask, have what they are to have, and all others what they had
pub record Reached (from old u : List ℕ) (on price set : ℕ) : Type 0 where
  pub holds : bit_and on set ≡ on
  pub done : (s : ℕ) → s < set → sum_in u s ≡ raised from old on price s
  pub todo : (s : ℕ) → set ≤ s → sum_in u s ≡ sum_in old s

-- a set that does not hold the mask keeps its sum
raised_keeps : (from old : List ℕ) (on price s : ℕ) → (bit_and on s ≡ on → ⊥) → raised from old on price s ≡ sum_in old s
raised_keeps from old on price s misses =
    ap (λ (x : ℕ). larger x (sum_in old s)) (pick_no (price + sum_in from (s - on)) 0 (ne_eqb (bit_and on s) on misses)) ∙ larger-none (sum_in old s)

raised_holds : (from old : List ℕ) (on price s : ℕ) → bit_and on s ≡ on → raised from old on price s ≡ larger (price + sum_in from (s - on)) (sum_in old s)
raised_holds from old on price s held = ap (λ (x : ℕ). larger x (sum_in old s)) (pick_yes (price + sum_in from (s - on)) 0 (eq-eqb (bit_and on s) on held))

-- one set more
pub reached_next : (from old u w : List ℕ) (on price set : ℕ) → on < 65536 → Reached from old u on price set →
    Put u w set (larger (price + sum_in from (set - on)) (sum_in u set)) → Reached from old w on price (bit_or (set + 1) on)
reached_next from old u w on price set small r p =
    record { holds = or_holds 16 (set + 1) on small; done = λ s early. done s early (cases_eq s set) (cases_lt s set); todo = todo }
  where
    here : sum_in w set ≡ raised from old on price set
    here =
        p.sum ∙ ap (larger (price + sum_in from (set - on))) (r.todo set (omega arith)) ∙ sym (raised_holds from old on price set r.holds)

    between : (s : ℕ) → set < s → s < bit_or (set + 1) on → bit_and on s ≡ on → ⊥
    between s past early held = omega (arith, next_least set set s on (below_power set) r.holds held past)

    done : (s : ℕ) → s < bit_or (set + 1) on → (s ≡ set) ⊎ (s ≡ set → ⊥) → (s < set) ⊎ (set ≤ s) → sum_in w s ≡ raised from old on price s
    done s early (inl e) other = subst (λ x. sum_in w x ≡ raised from old on price x) (sym e) here
    done s early (inr ne) (inl before) = p.others s ne ∙ r.done s before
    done s early (inr ne) (inr behind) =
        p.others s ne ∙ r.todo s behind ∙ sym (raised_keeps from old on price s (between s (omega arith) early))

    todo : (s : ℕ) → bit_or (set + 1) on ≤ s → sum_in w s ≡ sum_in old s
    todo s le = let past = next_past set on in p.others s (λ e. omega arith) ∙ r.todo s (omega arith)

-- with a bid that fits, what is left is the rest's number
pub left_over : (t : List ℕ) (n on s : ℕ) (rest : Some → ℕ) → on < 65536 → s < 2 ^ n → bit_and on s ≡ on → Holds t n rest → sum_in t (s - on) ≡ rest (less (bits n s) (bits 16 on))
left_over t n on s rest small h fits holds =
    let here : on ≤ s = omega (arith, and_le_r on s) in
    let same : bit_and s on ≡ on = and_comm s on ∙ fits in
    holds.sums (s - on) (omega arith) ∙ ap rest (less-bits n 16 s on (s - on) small (omega arith))

-- past the last set, the table holds what the bid makes of it
module _ (from old u : List ℕ) (on price set : ℕ) (small : on < 65536) (end : length u / 2 ≤ set) (r : Reached from old u on price set) where
  all-raised : (n s : ℕ) → table_words n ≤ length u → s < 2 ^ n → sum_in u s ≡ raised from old on price s
  all-raised n s fits h = r.done s (omega arith)

  abbrev bid : Bid
  bid = record { on = bits 16 on; price = price }

  offered_holds : (n : ℕ) (rest had : Some → ℕ) → table_words n ≤ length u → Holds from n rest → Holds old n had → Holds u n (with_bid bid rest had)
  offered_holds n rest had fits hf ht = record { sums = λ s h. all-raised n s fits h ∙ at s h (cases_eq (bit_and on s) on) }
    where
      test : (s : ℕ) → s < 2 ^ n → eqb (bit_and on s) on ≡ within (bits 16 on) (bits n s)
      test s h = within-bits 16 n on s small h

      at : (s : ℕ) → s < 2 ^ n → (bit_and on s ≡ on) ⊎ (bit_and on s ≡ on → ⊥) → raised from old on price s ≡ with_bid bid rest had (bits n s)
      at s h (inl held) =
          raised_holds from old on price s held
          ∙ ap₂ (λ (x y : ℕ). larger (price + x) y) (left_over from n on s rest small h held hf) (ht.sums s h)
          ∙ ap (λ (x : ℕ). larger x (had (bits n s))) (sym (pick_yes _ 0 (sym (test s h) ∙ eq-eqb (bit_and on s) on held)))
      at s h (inr misses) =
          raised_keeps from old on price s misses
          ∙ ht.sums s h
          ∙ sym (larger-none (had (bits n s)))
          ∙ ap (λ (x : ℕ). larger x (had (bits n s))) (sym (pick_no _ 0 (sym (test s h) ∙ ne_eqb (bit_and on s) on misses)))

  offered_below : price < 4294967296 → (n x : ℕ) → table_words n ≤ length u → Below from n x → Below old n (x + 4294967296) → Below u n (x + 4294967296)
  offered_below cheap n x fits bf bt = record { sums = λ s h. rw (all-raised n s fits h) (larger_below _ _ _ (at s h) (bt.sums s h)) }
    where
      at : (s : ℕ) → s < 2 ^ n → pick (eqb (bit_and on s) on) (price + sum_in from (s - on)) 0 < x + 4294967296
      at s h = let b = bf.sums (s - on) (omega arith) in grind (arith, nat_tests)

  pub reached_all : (mask : ℕ) → on ≡ mask → price < 4294967296 → length u ≡ length old → Offered from old u (record { on = bits 16 mask; price = price })
  reached_all mask same cheap long =
      let P : ℕ → Type 0 = λ m. Offered from old u (record { on = bits 16 m; price = price }) in
      subst P same (record { long = long; holds = offered_holds; below = offered_below cheap })
