-- What a caller's words of bids mean, when the tables of the solver are filled from them, and what is told. Assumes nothing: these are definitions.
use Rattle.std.specs.Prelude.{◌≡◌, ℕ, ◌+◌, ◌*◌, ◌≤◌, ◌&&◌, List, map, take, drop, ℤ, pos, ◌==◌, nat_le}
use Rattle.std.specs.List.{range_with_len}
use Rattle.auction.specs.Bids.{Bids, pick}
use Rattle.ledger.specs.Words.{bids_in}
use Rattle.solver.specs.Welfare.{table_at, Room}
use Rattle.exports.specs.Codes.{turned}

-- the bids of a bidder are in 32 words, and come one bidder after the other
abbrev pub row_in : List ℕ → ℕ → Bids
row_in ws b = bids_in (take 32 (drop (32 * b) ws))

abbrev pub rows_in : List ℕ → ℕ → List Bids
rows_in ws bidders = map (row_in ws) (range_with_len 0 bidders)

-- why nothing is filled: 2 for values out of range, 3 for too few words to fill; or 0
abbrev pub fill_refusal : ℕ → ℕ → ℕ → ℕ → ℕ
fill_refusal len n bidders words = pick (nat_le n 16 && (nat_le bidders 32 && nat_le (32 * bidders) words)) (pick (nat_le (table_at n (bidders + 1)) len) 0 3) 2

-- what is told: how many words were filled, or the refusal
abbrev pub fill_told : ℕ → ℕ → ℕ → ℕ → ℤ
fill_told len n bidders words =
    pick (fill_refusal len n bidders words == 0) (pos (table_at n (bidders + 1))) (turned (fill_refusal len n bidders words) 0)

-- nothing speaks against it, and so many words will be filled
pub record MayFill (len n bidders words size : ℕ) : Type 0 where
  pub taken : fill_refusal len n bidders words ≡ 0
  pub room : Room len n bidders
  pub rows : 32 * bidders ≤ words
  pub filled : size ≡ table_at n (bidders + 1)
