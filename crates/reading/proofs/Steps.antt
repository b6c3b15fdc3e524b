-- One byte more of a line: what is left of it gives what was to be read. Assumes nothing.
use Rattle.std.proofs.Common.{◌≡◌, ℕ, ◌+◌, ◌<◌, ◌≤◌, List, [], ◌∷◌, length, get_or, drop, None, Option, Result, refl}
use Rattle.std.proofs.lemmas.List.{at_drop_more, at_drop_all}
use Rattle.auction.specs.Bids.{pick}
use Rattle.reading.specs.Lines.{blank, byte, given, grown, next, skip, spelt, starts}
use Rattle.reading.specs.Reads.{got, then}
use Rattle.reading.specs.Runs.{further, made}

-- blanks, by their first byte
pub skip_next : (bs : List ℕ) → skip bs ≡ pick (starts blank bs) (skip (drop 1 bs)) bs
unfolding skip
skip_next [] = refl
skip_next (b ∷ bs) = refl

-- a word, from its byte at place i on
module _ (ws : List ℕ) (i : ℕ) (bs : List ℕ) where
  pub spelt_next : i < length ws → spelt (drop i ws) bs ≡ then (byte (get_or ws i 0) bs) (λ _ left. spelt (drop (i + 1) ws) left)
  unfolding spelt
  spelt_next h = at_drop_more (λ w. spelt w bs) ws i 0 h

  pub spelt_end : length ws ≤ i → spelt (drop i ws) bs ≡ got tt bs
  unfolding spelt
  spelt_end h = at_drop_all (λ w. spelt w bs) ws i h

-- a number or a set, by its first byte
pub grown_next : {X D E : Type 0} (sort : ℕ → Option D) (more : X → D → Result X E) (n : X) (bs : List ℕ) → grown sort more n bs ≡ given (given (next bs) None sort) (made n bs) (λ d. further (more n d) bs (λ m. grown sort more m (drop 1 bs)))
unfolding grown
grown_next sort more n [] = refl
grown_next sort more n (b ∷ bs) = refl
