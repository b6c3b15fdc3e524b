-- A group of bidders settled by tables of the bids that matter. Assumes nothing.
use Rattle.std.proofs.Common.{◌≡◌, ℕ, ◌+◌, ◌-◌, ◌<◌, ◌≤◌, List, [], length, get_or, drop, None, Option, sym, ap, ◌∙◌, subst, ap₂, arith}
use Rattle.std.proofs.lemmas.List.{get_or-drop, length-drop}
use Rattle.auction.specs.Bids.{Some, Bids, best, without, choice}
use Rattle.auction.specs.Faster.{Kept, KeptBest}
use Rattle.auction.proofs.Kept.{kept_best}
use Rattle.bundles.specs.Masks.{bits}
use Rattle.solver.specs.Welfare.{FilledFrom}
use Rattle.solver.specs.Choosing.{Solved, Allocated, IsTaken, price_of}
use Rattle.solver.specs.Paying.{Charged}
use Rattle.solver.specs.Sharing.{AllKept, Shared}
use Rattle.solver.specs.declared.outcome.Share.{Share}
use Rattle.solver.specs.declared.outcome.Taken.{Taken}

pub solved_by : (t u : List ℕ) (n : ℕ) (bss : List Bids) → length bss ≤ 32 → FilledFrom t u n bss 0 → Solved u n bss
solved_by t u n bss few f =
    record {
      holds = λ j le. f.holds j (omega arith) le;
      below = λ j le. record { sums = λ s h. omega (arith, (f.below j (omega arith) le).sums s h) };
    }

module _ (kepts bss : List Bids) (k : AllKept kepts bss) where
  -- the bidders from one on
  kept_from : (j i : ℕ) → i < length (drop j bss) → Kept (get_or (drop j kepts) i []) (get_or (drop j bss) i [])
  kept_from j i lt =
      let K : Bids → Bids → Type 0 = λ xs ys. Kept xs ys in
      let P : Bids → Type 0 = λ xs. K xs (get_or (drop j bss) i []) in
      let Q : Bids → Type 0 = λ ys. K (get_or kepts (j + i) []) ys in
      subst P (sym (get_or-drop j kepts i [])) (subst Q (sym (get_or-drop j bss i [])) (k.each (j + i) (omega (arith, length-drop j bss))))

  same_from : (j : ℕ) (free : Some) → best (drop j kepts) free ≡ best (drop j bss) free
  unfolding KeptBest
  same_from j free = (kept_best (drop j kepts) (drop j bss) free (omega (arith, length-drop j kepts, length-drop j bss, k.long)) (kept_from j)).0

  -- tables of the bids that matter are those of all bids
  pub solved_all : (u : List ℕ) (n : ℕ) → Solved u n kepts → Solved u n bss
  solved_all u n s =
      record {
        holds = λ j le. record { sums = λ m h. (s.holds j (omega (arith, k.long))).sums m h ∙ same_from j (bits n m) };
        below = λ j le. s.below j (omega (arith, k.long));
      }

  -- and so are payments
  pub shared_as : (free : Some) (ts : List (Option Taken)) (ss : List Share) → Allocated bss free ts → Charged kepts free ts ss → Shared bss free ss
  unfolding KeptBest
  shared_as free ts ss a c =
      let same = kept_best kepts bss free k.long k.each in
      record {
        long = c.long;
        each = λ i lt.
            let T : Option Taken → Type 0 = λ t. IsTaken (get_or bss i []) (get_or (choice bss free) i 0) t in
            record {
              taken = subst T (sym (c.taken i (omega (arith, k.long)))) (a.each i lt);
              paid =
                  c.paid i (omega (arith, k.long))
                  ∙ ap₂ (λ (x y : ℕ). x - (y - price_of (get_or ts i None))) (same.1 i) same.0
                  ∙ ap (λ (p : ℕ). best (without bss i) free - (best bss free - p)) (a.each i lt).price;
            };
        none = λ i le. c.none i (omega (arith, k.long));
      }
