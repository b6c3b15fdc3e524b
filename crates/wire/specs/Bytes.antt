-- Numbers and bids as bytes. Assumes nothing: these are definitions.
use Rattle.std.specs.Prelude.{◌≡◌, ℕ, zero, suc, ◌+◌, ◌*◌, ◌/◌, ◌%◌, ◌<◌, List, [], ◌∷◌, ◌++◌, length, take, drop, flat_map, Option, MatchOption, slice_index}
use Rattle.auction.specs.Bids.{Bid, Bids}
use Rattle.bundles.specs.Masks.{bits, mask_of}

-- each is a byte
abbrev pub AllBytes : List ℕ → Type 0
AllBytes bs = (i : ℕ) → slice_index bs i < 256

-- a number as k bytes, low byte first; and the number that the first k bytes are
unfoldable pub spelled : ℕ → ℕ → List ℕ
spelled zero n = []
spelled (suc k) n = n % 256 ∷ spelled k (n / 256)

unfoldable pub number_in : ℕ → List ℕ → ℕ
number_in zero bs = 0
number_in (suc k) [] = 0
number_in (suc k) (b ∷ bs) = b + 256 * number_in k bs

-- a bid is six bytes: a set as the bits of two, piece 0 the lowest, and a price in four
unfoldable pub bids_bytes : Bids → List ℕ
bids_bytes [] = []
bids_bytes (b ∷ bs) = spelled 2 (mask_of b.on) ++ (spelled 4 b.price ++ bids_bytes bs)

abbrev pub bid_in : List ℕ → Bid
bid_in bs = record { on = bits 16 (number_in 2 bs); price = number_in 4 (drop 2 bs) }

-- the first n bids
unfoldable pub bids_in : ℕ → List ℕ → Bids
bids_in zero bs = []
bids_in (suc n) bs = bid_in bs ∷ bids_in n (drop 6 bs)

-- the bytes of values one after the other
abbrev pub all_bytes : {A : Type 0} → (A → List ℕ) → List A → List ℕ
all_bytes bytes xs = flat_map bytes xs

-- a row of bytes with these in it from a place on, and the others as they were
unfoldable pub put : List ℕ → ℕ → List ℕ → List ℕ
put xs at bs = take at xs ++ (bs ++ drop (at + length bs) xs)

-- these bytes were written to the front of a row of bytes, and this is how many they are
pub record Written (before after : List ℕ) (n : ℕ) (bs : List ℕ) : Type 0 where
  pub bytes : after ≡ put before 0 bs
  pub len : n ≡ length bs

-- these bytes were written, or there was no room for them and nothing was
abbrev pub WrittenIf : List ℕ → List ℕ → Option ℕ → List ℕ → Type 0
WrittenIf before after r bs = MatchOption r ((length before < length bs) × (after ≡ before)) (λ n. Written before after n bs)
