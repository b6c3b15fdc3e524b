-- Calls as bytes: which call a row of bytes is, or where it ceases to be one. Assumes nothing: these are definitions.
-- A call is a byte, its number, and its fields of four bytes each, low byte first; bids come last, their count before them in a byte.
use Rattle.std.specs.Prelude.{ℕ, ◌+◌, ◌*◌, min, ◌||◌, List, [], ◌∷◌, ◌++◌, length, drop, ◌==◌, slice_index}
use Rattle.auction.specs.Bids.{pick}
use Rattle.auction.specs.House.{Call, opens, bids, ticks, my_bids, result, brings, lot_is, garbled, call_number}
use Rattle.wire.specs.Bytes.{spelled, number_in, bids_bytes, bids_in}

-- how a call is written
abbrev pub fields : Call → List ℕ
fields (opens n t) = spelled 4 n ++ spelled 4 t
fields (bids k b bs) = spelled 4 k ++ (spelled 4 b ++ (length bs ∷ bids_bytes bs))
fields (ticks n) = spelled 4 n
fields (my_bids k b) = spelled 4 k ++ spelled 4 b
fields (result k b) = spelled 4 k ++ spelled 4 b
fields (brings k) = spelled 4 k
fields (lot_is k) = spelled 4 k
fields (garbled n) = []

abbrev pub call_bytes : Call → List ℕ
call_bytes c = call_number c ∷ fields c

-- how many bytes a call has, by its number and its count of bids: 0 where there is no such call
abbrev pub size_by : ℕ → ℕ → ℕ
size_by k n = pick (k == 1) (10 + 6 * n) (pick (k == 0 || (k == 3 || k == 4)) 9 (pick (k == 2 || (k == 5 || k == 6)) 5 0))

-- how many bytes a call has that begins so: as many as it takes to tell where its number, or the count of its bids, is yet to come
abbrev pub call_size : List ℕ → ℕ
call_size bs = pick (length bs == 0) 1 (size_by (slice_index bs 0) (slice_index bs 9))

-- the call that a row of bytes is which is as long as a call that begins so
abbrev pub field_at : List ℕ → ℕ → ℕ
field_at bs i = number_in 4 (drop i bs)

abbrev pub call_of : ℕ → List ℕ → Call
call_of k bs =
    pick (k == 0) (opens (field_at bs 1) (field_at bs 5))
    (pick (k == 1) (bids (field_at bs 1) (field_at bs 5) (bids_in (slice_index bs 9) (drop 10 bs)))
    (pick (k == 2) (ticks (field_at bs 1))
    (pick (k == 3) (my_bids (field_at bs 1) (field_at bs 5))
    (pick (k == 4) (result (field_at bs 1) (field_at bs 5))
    (pick (k == 5) (brings (field_at bs 1)) (lot_is (field_at bs 1)))))))

-- a row of bytes that is too short ceases to be a call at its end, and one that is too long behind the call
abbrev pub call_in : List ℕ → Call
call_in bs = pick (length bs == call_size bs) (call_of (slice_index bs 0) bs) (garbled (min (length bs) (call_size bs)))
