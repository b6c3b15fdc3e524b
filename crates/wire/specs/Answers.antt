-- Answers as bytes: how an answer is written, and which answer a row of bytes is or where it ceases to be one. Assumes nothing: these are definitions.
-- An answer is a byte, its kind, and its numbers of eight bytes each, low byte first; bids come with their count before them in a byte, sixteen at most.
use Rattle.std.specs.Prelude.{ℕ, ◌+◌, ◌*◌, min, ◌&&◌, ◌||◌, List, ◌∷◌, ◌++◌, length, drop, ◌==◌, nat_le, slice_index}
use Rattle.auction.specs.Bids.{pick}
use Rattle.auction.specs.House.{Answer, refused, number, two, list}
use Rattle.wire.specs.Bytes.{spelled, number_in, bids_bytes, bids_in}

abbrev pub answer_bytes : Answer → List ℕ
answer_bytes (refused n p) = 0 ∷ (spelled 8 n ++ spelled 8 p)
answer_bytes (number n) = 1 ∷ spelled 8 n
answer_bytes (two a b) = 2 ∷ (spelled 8 a ++ spelled 8 b)
answer_bytes (list bs) = 3 ∷ (length bs ∷ bids_bytes bs)

pub data Heard : Type 0 where
  heard : Answer → Heard
  lost : ℕ → Heard  -- bytes that are no answer; where they cease to be one

-- how many bytes an answer has, by its kind and its count of bids: 0 where there is no such kind, and 1 where there are too many bids
abbrev pub length_by : ℕ → ℕ → ℕ
length_by k n = pick (k == 1) 9 (pick (k == 0 || k == 2) 17 (pick (k == 3) (pick (nat_le n 16) (2 + 6 * n) 1) 0))

-- how many bytes an answer has that begins so: as many as it takes to tell where its kind, or the count of its bids, is yet to come
abbrev pub answer_size : List ℕ → ℕ
answer_size bs = pick (length bs == 0) 1 (length_by (slice_index bs 0) (slice_index bs 1))

abbrev pub sum_at : List ℕ → ℕ → ℕ
sum_at bs i = number_in 8 (drop i bs)

abbrev pub answer_of : ℕ → List ℕ → Heard
answer_of k bs =
    pick (k == 0) (pick (nat_le 1 (sum_at bs 1) && nat_le (sum_at bs 1) 8) (heard (refused (sum_at bs 1) (sum_at bs 9))) (lost 1))
    (pick (k == 1) (heard (number (sum_at bs 1)))
    (pick (k == 2) (heard (two (sum_at bs 1) (sum_at bs 9)))
    (heard (list (bids_in (slice_index bs 1) (drop 2 bs))))))

abbrev pub answer_in : List ℕ → Heard
answer_in bs = pick (length bs == answer_size bs) (answer_of (slice_index bs 0) bs) (lost (min (length bs) (answer_size bs)))
