-- Answers as lines of text. Assumes nothing: these are definitions.
-- A piece is a digit, 0 to 9 and then a to f; a set is a row of them in rising order; a bid is a set, a blank and a price.
use Rattle.std.specs.Prelude.{ℕ, suc, ◌+◌, List, [], ◌∷◌, ◌++◌, length, decimal, nat_lt}
use Rattle.auction.specs.Bids.{Some, Bid, Bids, pick}
use Rattle.auction.specs.House.{Answer, refused, number, two, list}

abbrev pub digit : ℕ → ℕ
digit i = pick (nat_lt i 10) (48 + i) (87 + i)

-- the digits of the pieces of a set, the first of which is piece i
unfoldable pub set_text : ℕ → Some → List ℕ
set_text i [] = []
set_text i (x ∷ xs) = pick x (digit i ∷ []) [] ++ set_text (suc i) xs

abbrev pub bid_text : Bid → List ℕ
bid_text b = set_text 0 b.on ++ (32 ∷ decimal b.price)

-- each bid behind a blank, and a comma between two: what stands before the first is given
unfoldable pub bids_after : List ℕ → Bids → List ℕ
bids_after sep [] = []
bids_after sep (b ∷ bs) = (sep ++ (32 ∷ bid_text b)) ++ bids_after (44 ∷ []) bs

abbrev pub bids_text : Bids → List ℕ
bids_text bs = bids_after [] bs

abbrev pub pair_text : ℕ → ℕ → List ℕ
pair_text a b = decimal a ++ (32 ∷ decimal b)

-- the kind of the answer, and its values
abbrev pub answer_text : Answer → List ℕ
answer_text (refused n p) = 48 ∷ 32 ∷ pair_text n p
answer_text (number n) = 49 ∷ 32 ∷ decimal n
answer_text (two a b) = 50 ∷ 32 ∷ pair_text a b
answer_text (list bs) = 51 ∷ 32 ∷ (decimal (length bs) ++ (58 ∷ bids_text bs))
