-- Sets of pieces as the bits of numbers, piece 0 the lowest: the bridge from masks to the sets of the meaning. Assumes nothing: these are definitions.
use Rattle.std.specs.Prelude.{ℕ, zero, suc, ◌+◌, ◌*◌, ◌/◌, ◌%◌, ◌||◌, [], ◌∷◌, ◌==◌}
use Rattle.auction.specs.Bids.{Some, pick}

-- the set that the lowest n bits of a number are
unfoldable pub bits : ℕ → ℕ → Some
bits zero m = []
bits (suc n) m = (m % 2 == 1) ∷ bits n (m / 2)

-- the number whose bits a set is
unfoldable pub mask_of : Some → ℕ
mask_of [] = 0
mask_of (x ∷ xs) = pick x 1 0 + 2 * mask_of xs

-- the pieces of either set
unfoldable pub union : Some → Some → Some
union [] ys = ys
union (x ∷ xs) [] = x ∷ xs
union (x ∷ xs) (y ∷ ys) = (x || y) ∷ union xs ys
