-- A bidder's table made of the next one's, bid by bid. Assumes nothing.
use Rattle.std.proofs.Common.{◌≡◌, ℕ, ◌+◌, List, [], ◌∷◌, ◌++◌, refl, sym, ap, ◌∙◌, arith}
use Rattle.std.proofs.lemmas.Bool.Decides.{nat_tests}
use Rattle.auction.specs.Bids.{Some, Bid, Bids, larger, pick, within, less, with_some}
use Rattle.solver.specs.Tables.{with_bid, Offered, Filled}

larger_swapped : (a b c : ℕ) → larger a (larger b c) ≡ larger b (larger a c)
larger_swapped a b c = grind (arith, nat_tests)

-- one bid more, at the end: it does not matter in which order bids are offered
some_more : (bs : Bids) (b : Bid) (free : Some) (rest : Some → ℕ) → with_some (bs ++ b ∷ []) free rest ≡ with_bid b rest (λ s. with_some bs s rest) free
unfolding with_some
some_more [] b free rest = refl
some_more (a ∷ bs) b free rest =
    let x = pick (within a.on free) (a.price + rest (less free a.on)) 0 in
    ap (larger x) (some_more bs b free rest) ∙ larger_swapped x (pick (within b.on free) (b.price + rest (less free b.on)) 0) (with_some bs free rest)

-- with no bid each set brings what the next one's table says
pub filled_none : (t : List ℕ) → Filled t t []
unfolding with_some
filled_none t =
    record { long = refl; holds = λ n rest fits h. record { sums = h.sums }; below = λ n x fits b. record { sums = λ s lt. omega (arith, b.sums s lt) } }

pub filled_more : (t u w : List ℕ) (bs : Bids) (b : Bid) → Filled t u bs → Offered t u w b → Filled t w (bs ++ b ∷ [])
filled_more t u w bs b f o =
    record {
      long = o.long ∙ f.long;
      holds = λ n rest fits h.
          let had = f.holds n rest (omega (arith, o.long)) h in
          let has = o.holds n rest (λ free. with_some bs free rest) fits h had in
          record { sums = λ s lt. has.sums s lt ∙ sym (some_more bs b _ rest) };
      below = λ n x fits h. o.below n x fits h (f.below n x (omega (arith, o.long)) h);
    }
