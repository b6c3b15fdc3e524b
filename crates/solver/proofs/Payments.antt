-- What each bidder pays, from the first on: beside the tables from the last bidder on there is one of those before the bidder. Assumes nothing.
use Rattle.std.proofs.Common.{◌≡◌, ℕ, ◌+◌, ◌-◌, ◌*◌, ◌^◌, ◌<◌, ◌≤◌, ◌⊎◌, List, [], length, get_or, take, drop, set, replicate, None, Option, sym, ap, ◌∙◌, subst, ap₂, inl, inr, arith}
use Rattle.std.proofs.lemmas.List.{length-replicate, get_or-set_same, get_or-set_other, length-set}
use Rattle.std.proofs.lemmas.Bool.{cases_eq}
use Rattle.auction.specs.Bids.{Some, Bids, best, without}
use Rattle.auction.specs.Faster.{OneMore}
use Rattle.auction.proofs.Joined.{one_more}
use Rattle.bundles.specs.Masks.{bits}
use Rattle.solver.specs.Tables.{sum_in, table_words, Holds, Below, Small, Filled}
use Rattle.solver.specs.Choosing.{price_of}
use Rattle.solver.specs.Paying.{Joined, nothing_taken}
use Rattle.solver.specs.declared.outcome.Share.{Share}
use Rattle.solver.specs.declared.outcome.Taken.{Taken}
use Rattle.solver.proofs.Bidders.{small_there, zero_sum}
use Rattle.solver.proofs.Others.{others_is}
use Rattle.solver.proofs.Walks.{all_alike}

-- what a bidder is charged, and its share
abbrev pub charge : List Bids → Some → List (Option Taken) → ℕ → ℕ
charge bss free ts i = best (without bss i) free - (best bss free - price_of (get_or ts i None))

abbrev pub charged : List Bids → Some → List (Option Taken) → ℕ → Share
charged bss free ts i = record { taken = get_or ts i None; paid = charge bss free ts i }

-- so far: those before this bidder have paid, and there is a table of their bids, and room for one more
pub record Paying (n : ℕ) (free : Some) (bss : List Bids) (ts : List (Option Taken)) (i : ℕ) (before after : List ℕ) (ss : List Share) : Type 0 where
  pub front : Holds before n (best (take i bss))
  pub low : Below before n (1 + i * 4294967296)
  pub size : length before ≡ table_words n
  pub room : length after ≡ table_words n
  pub long : length ss ≡ 32
  pub done : (j : ℕ) → j < i → get_or ss j nothing_taken ≡ charged bss free ts j
  pub rest : (j : ℕ) → i ≤ j → get_or ss j nothing_taken ≡ nothing_taken

-- before the first bidder there is nothing
pub paying_none : (n m : ℕ) (free : Some) (bss : List Bids) (ts : List (Option Taken)) (before after : List ℕ) (share : Share) (ss : List Share) → m ≡ table_words n → before ≡ replicate m 0 → length after ≡ table_words n →
    share ≡ nothing_taken → ss ≡ replicate 32 share → Paying n free bss ts 0 before after ss
unfolding best
paying_none n m free bss ts before after share ss size zeros room none shares =
    record {
      front = record { sums = zero };
      low = record { sums = λ s lt. omega (arith, zero s lt) };
      size = ap length zeros ∙ length-replicate m 0 ∙ size;
      room = room;
      long = ap length all;
      done = λ j lt. absurd (omega arith);
      rest = λ j le. ap (λ (xs : List Share). get_or xs j nothing_taken) all ∙ all_alike 32 j nothing_taken;
    }
  where
    all : ss ≡ replicate 32 nothing_taken
    all = shares ∙ ap (replicate 32) none

    zero : (s : ℕ) → s < 2 ^ n → sum_in before s ≡ 0
    zero s lt = rw zeros (zero_sum n m s size lt)

module _ (n : ℕ) (free : Some) (bss : List Bids) (ts : List (Option Taken)) (i : ℕ) (before after : List ℕ) (ss : List Share) (p : Paying n free bss ts i before after ss) where
  -- what is asked of the tables
  pub front_small : i < 32 → Small before
  front_small few = small_there before n _ p.size (omega arith) p.low

  -- what this one is charged
  pub charge_is : (w : ℕ) (next : List ℕ) (most others paid : ℕ) → w < 2 ^ n → free ≡ bits n w → Holds next n (best (drop (i + 1) bss)) → Joined before next w others →
      most ≡ best bss free → paid ≡ others - (most - price_of (get_or ts i None)) → paid ≡ charge bss free ts i
  charge_is w next most others paid hw all back j whole paid-is =
      let could = others_is before next n w bss i others hw p.size p.front back j ∙ ap (best (without bss i)) (sym all) in
      paid-is ∙ ap₂ (λ (x y : ℕ). x - (y - price_of (get_or ts i None))) could whole

  -- and goes among those before the next
  pub paying_more : (made : List ℕ) (share : Share) → i < length bss → i < 32 → Filled before made (get_or bss i []) → share.taken ≡ get_or ts i None → share.paid ≡ charge bss free ts i → Paying n free bss ts (i + 1) made before (set ss i share)
  unfolding OneMore
  paying_more made share lt few f got e =
      let size : length made ≡ table_words n = f.long ∙ p.size in
      record {
        front = record { sums = λ m h. (f.holds n (best (take i bss)) (omega (arith, size)) p.front).sums m h ∙ sym (one_more bss i (bits n m) lt) };
        low = record { sums = λ m h. omega (arith, (f.below n (1 + i * 4294967296) (omega (arith, size)) p.low).sums m h) };
        size = size;
        room = p.size;
        long = length-set ss i share ∙ p.long;
        done = λ j h. done j h (cases_eq j i);
        rest = λ j h. get_or-set_other ss i j share nothing_taken (λ z. omega arith) ∙ p.rest j (omega arith);
      }
    where
      this : share ≡ charged bss free ts i
      this = let S : Option Taken → ℕ → Share = λ t p. record { taken = t; paid = p } in ap₂ S got e

      done : (j : ℕ) → j < i + 1 → (j ≡ i) ⊎ (j ≡ i → ⊥) → get_or (set ss i share) j nothing_taken ≡ charged bss free ts j
      done j h (inl same) = let P : ℕ → Type 0 = λ k. get_or (set ss i share) k nothing_taken ≡ charged bss free ts k in subst P (sym same) (get_or-set_same ss i share nothing_taken (omega (arith, p.long)) ∙ this)
      done j h (inr ne) = get_or-set_other ss i j share nothing_taken ne ∙ p.done j (omega arith)
