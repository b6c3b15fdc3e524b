-- The tables of all bidders, one made of the next, from the last one on. Assumes nothing.
use Rattle.std.proofs.Common.{◌≡◌, ℕ, zero, suc, ◌+◌, ◌-◌, ◌*◌, ◌^◌, ◌<◌, ◌≤◌, List, [], ◌∷◌, ◌++◌, length, get_or, take, drop, replicate, sym, ap, ◌∙◌, subst, ap₂, mul-le-mul_right, add-mul, one-mul, zero-mul, arith}
use Rattle.std.proofs.lemmas.List.{take-append-le, take_all, length-take-le, get_or-append_right, get_or-map, get_or-replicate, length-replicate, length-map}
use Rattle.std.proofs.Math.Seq.{drop-append-add}
use Rattle.auction.specs.Bids.{Bids, best}
use Rattle.auction.specs.Promise.{BestOfAll}
use Rattle.auction.proofs.Choice.{best_of_all}
use Rattle.bundles.specs.Masks.{bits}
use Rattle.bundles.specs.Offers.{all_meant}
use Rattle.bundles.specs.Rows.{held, all_held}
use Rattle.bundles.specs.declared.Bid.{Bid}
use Rattle.bundles.specs.Rows.{Row}
use Rattle.solver.specs.Tables.{sum_in, table_words, Holds, Below, Small, Filled}
use Rattle.solver.specs.Welfare.{table_at, table_in, FilledFrom, Most, AllMost}

-- rows and their bids, bidder by bidder
pub as_many : (rows : List Row) → length (all_held rows) ≡ length rows
as_many rows = length-map rows (λ r. all_meant (held r))

pub bids_at : (rows : List Row) (i : ℕ) (d : Row) → i < length rows → all_meant (held (get_or rows i d)) ≡ get_or (all_held rows) i []
bids_at rows i d lt = sym (get_or-map (λ r. all_meant (held r)) rows i d [] lt)

pub bids_there : (rows : List Row) (i : ℕ) (row : Row) → i < length rows → row ≡ get_or rows i row → all_meant (held row) ≡ get_or (all_held rows) i []
bids_there rows i row lt e = ap (λ (r : Row). all_meant (held r)) e ∙ bids_at rows i row lt

-- one table behind the other
pub table_later : (n i j : ℕ) → i ≤ j → table_at n i ≤ table_at n j
table_later n i j le = mul-le-mul_right (table_words n) le

pub table_next : (n i : ℕ) → table_at n (i + 1) ≡ table_at n i + table_words n
table_next n i = add-mul i 1 (table_words n) ∙ ap (λ (x : ℕ). i * table_words n + x) (one-mul (table_words n))

-- the first of all tables, and those behind it
module _ (n : ℕ) (first later : List ℕ) (long : length first ≡ table_words n) where
  pub table_first : table_in (first ++ later) n 0 ≡ first
  table_first =
      ap (λ (k : ℕ). take (table_words n) (drop k (first ++ later))) (zero-mul (table_words n))
      ∙ take-append-le (table_words n) first later (omega (arith, long))
      ∙ take_all (table_words n) first (omega (arith, long))

  pub table_behind : (j : ℕ) → table_in (first ++ later) n (suc j) ≡ table_in later n j
  table_behind j =
      let at : suc j * table_words n ≡ length first + table_at n j = omega (arith, long, table_next n j) in
      ap (λ (k : ℕ). take (table_words n) (drop k (first ++ later))) at ∙ ap (take (table_words n)) (drop-append-add first later (table_at n j))

-- words that are 0 make sums that are 0
pub zero_sum : (n m s : ℕ) → m ≡ table_words n → s < 2 ^ n → sum_in (replicate m 0) s ≡ 0
zero_sum n m s size lt = ap₂ (λ (x y : ℕ). x + 4294967296 * y) (get_or-replicate m (2 * s) 0 0 (omega arith)) (get_or-replicate m (2 * s + 1) 0 0 (omega arith))

-- no sum is large
pub small_there : (t : List ℕ) (n b : ℕ) → length t ≡ table_words n → b ≤ 9223372036854775808 → Below t n b → Small t
small_there t n b long le low = record { sums = λ s lt. omega (arith, low.sums s (omega arith)) }

-- the first of the tables that are filled
module _ (n w : ℕ) (t u : List ℕ) (rows : List Row) (size : w ≡ table_words n) (fits : w ≤ length u) (f : FilledFrom t u n (all_held rows) 0) where
  first_is : table_in u n 0 ≡ take w u
  first_is = ap (λ (k : ℕ). take (table_words n) (drop k u)) (zero-mul (table_words n)) ∙ ap (λ (k : ℕ). take k u) (sym size)

  pub first_small : length rows ≤ 32 → Small (take w u)
  first_small few =
      let B : List ℕ → Type 0 = λ x. Below x n (1 + (length (all_held rows) - 0) * 4294967296) in
      small_there (take w u) n _ (length-take-le w u fits ∙ size) (omega (arith, as_many rows)) (subst B first_is (f.below 0 (omega arith) (omega arith)))

  -- one bidder more in front
  pub filled_one_more : (first to : List ℕ) (row : Row) (bids : List Bid) → length first ≡ w → length to ≡ w → bids ≡ held row →
      Filled (take w u) to (all_meant bids) → FilledFrom (first ++ t) (to ++ u) n (all_held (row ∷ rows)) 0
  unfolding best
  filled_one_more first to row bids was long these g =
      record { holds = holds; below = below; before = λ k lt. absurd (omega (arith, zero-mul (table_words n))); behind = behind }
    where
      here : length to ≡ table_words n
      here = long ∙ size

      behind : (k : ℕ) → table_at n (length (all_held (row ∷ rows)) + 1) ≤ k → get_or (to ++ u) k 0 ≡ get_or (first ++ t) k 0
      behind k le =
          let past : table_at n (length (all_held rows) + 1) + w ≤ k = omega (arith, size, table_next n (length (all_held rows) + 1)) in
          get_or-append_right to u w k 0 long (omega arith) ∙ f.behind (k - w) (omega arith) ∙ sym (get_or-append_right first t w k 0 was (omega arith))

      holds : (j : ℕ) → 0 ≤ j → j ≤ length (all_held (row ∷ rows)) → Holds (table_in (to ++ u) n j) n (best (drop j (all_held (row ∷ rows))))
      holds zero le few =
          let H : List ℕ → Type 0 = λ x. Holds x n (best (all_held rows)) in
          let h = g.holds n (best (all_held rows)) (omega (arith, here)) (subst H first_is (f.holds 0 (omega arith) (omega arith))) in
          rw (table_first n to u here, ← these) (record { sums = h.sums })
      holds (suc j) le few = rw (table_behind n to u here j) (f.holds j (omega arith) (omega arith))

      below : (j : ℕ) → 0 ≤ j → j ≤ length (all_held (row ∷ rows)) → Below (table_in (to ++ u) n j) n (1 + (length (all_held (row ∷ rows)) - j) * 4294967296)
      below zero le few =
          let B : List ℕ → Type 0 = λ x. Below x n (1 + (length (all_held rows) - 0) * 4294967296) in
          let b = g.below n _ (omega (arith, here)) (subst B first_is (f.below 0 (omega arith) (omega arith))) in
          rw (table_first n to u here) (record { sums = λ s h. omega (arith, b.sums s h) })
      below (suc j) le few = rw (table_behind n to u here j) (record { sums = λ s h. omega (arith, (f.below j (omega arith) (omega arith)).sums s h) })

-- behind the last bidder nothing comes to more than 0
pub filled_empty : (n m : ℕ) (first zeros later : List ℕ) → length first ≡ table_words n → zeros ≡ replicate m 0 → m ≡ length first → FilledFrom (first ++ later) (zeros ++ later) n [] 0
unfolding best
filled_empty n m first zeros later long same size =
    record {
      holds = λ j le few. let here : j ≡ 0 = omega arith in rw here (record { sums = none });
      below = λ j le few. let here : j ≡ 0 = omega arith in rw here (record { sums = λ s lt. omega (arith, none s lt) });
      before = λ k lt. absurd (omega (arith, zero-mul (table_words n)));
      behind = λ k le.
          let past : m ≤ k = omega (arith, long, size, table_next n 0, zero-mul (table_words n)) in
          get_or-append_right zeros later m k 0 many past ∙ sym (get_or-append_right first later m k 0 (sym size) past);
    }
  where
    many : length zeros ≡ m
    many = ap length same ∙ length-replicate m 0

    none : (s : ℕ) → s < 2 ^ n → sum_in (table_in (zeros ++ later) n 0) s ≡ 0
    none s lt = rw (table_first n zeros later (many ∙ size ∙ long), same) (zero_sum n m s (size ∙ long) lt)

-- each sum is the most of all ways
pub all_most : (t u : List ℕ) (n : ℕ) (bss : List Bids) → FilledFrom t u n bss 0 → AllMost u n bss
unfolding BestOfAll
all_most t u n bss f i s few h =
    let sum = (f.holds i (omega arith) few).sums s h in
    let ways = best_of_all (drop i bss) (bits n s) in
    let P : ℕ → Type 0 = λ v. Most (drop i bss) (bits n s) v in
    subst P (sym sum) (record { way = (_, ways.0, ways.1); none_more = ways.2 })
