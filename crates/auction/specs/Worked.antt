-- Worked lots: bids with what they come to, which are taken and what is paid. Assumes nothing: these are definitions, and one statement whose proof is owed.
use Rattle.std.specs.Prelude.{◌≡◌, ℕ, suc, ◌<◌, true, false, List, [], ◌∷◌, length, slice_index_or}
use Rattle.auction.specs.Bids.{Some, all, Bid, Bids, best, choice, pays}

pub record Worked : Type 0 where
  pub pieces : ℕ
  pub made : List Bids
  pub comes_to : ℕ
  pub chosen : List ℕ
  pub paid : List ℕ

-- pieces 0 and 1, alone and together
abbrev pub piece_0 : Some
piece_0 = true ∷ []

abbrev pub piece_1 : Some
piece_1 = false ∷ true ∷ []

abbrev pub both_pieces : Some
both_pieces = true ∷ true ∷ []

abbrev pub bid_of : ℕ → Some → Bid
bid_of price on = record { on = on; price = price }

-- a bidder with a single bid
abbrev pub bids_only : ℕ → Some → Bids
bids_only price on = bid_of price on ∷ []

unfoldable pub worked_lots : List Worked
worked_lots =
    record {
      pieces = 1;
      made = bids_only 100 piece_0 ∷ bids_only 70 piece_0 ∷ bids_only 90 piece_0 ∷ [];
      comes_to = 100;
      chosen = 1 ∷ 0 ∷ 0 ∷ [];
      paid = 90 ∷ 0 ∷ 0 ∷ [];
    }
    ∷ record {
      pieces = 2;
      made = bids_only 100 both_pieces ∷ bids_only 60 piece_0 ∷ bids_only 60 piece_1 ∷ [];
      comes_to = 120;
      chosen = 0 ∷ 1 ∷ 1 ∷ [];
      paid = 0 ∷ 40 ∷ 40 ∷ [];
    }
    ∷ record {
      pieces = 2;
      made = bids_only 130 both_pieces ∷ bids_only 60 piece_0 ∷ bids_only 60 piece_1 ∷ [];
      comes_to = 130;
      chosen = 1 ∷ 0 ∷ 0 ∷ [];
      paid = 120 ∷ 0 ∷ 0 ∷ [];
    }
    ∷ record {
      pieces = 2;
      made = (bid_of 50 piece_0 ∷ bid_of 40 piece_1 ∷ []) ∷ bids_only 45 piece_0 ∷ bids_only 10 piece_1 ∷ [];
      comes_to = 85;
      chosen = 2 ∷ 1 ∷ 0 ∷ [];
      paid = 10 ∷ 20 ∷ 0 ∷ [];
    }
    ∷ record {
      pieces = 1;
      made = bids_only 5 piece_0 ∷ bids_only 5 piece_0 ∷ [];
      comes_to = 5;
      chosen = 1 ∷ 0 ∷ [];
      paid = 5 ∷ 0 ∷ [];
    }
    ∷ record  -- the fourth again, the first bid of bidder 0 left out
    {
      pieces = 2;
      made = bids_only 40 piece_1 ∷ bids_only 45 piece_0 ∷ bids_only 10 piece_1 ∷ [];
      comes_to = 85;
      chosen = 1 ∷ 1 ∷ 0 ∷ [];
      paid = 10 ∷ 0 ∷ 0 ∷ [];
    }
    ∷ []

-- a number for each bidder, in their order
unfoldable pub for_each : {A : Type 0} → List A → (ℕ → ℕ) → List ℕ
for_each [] f = []
for_each (x ∷ xs) f = f 0 ∷ for_each xs (λ i. f (suc i))

unfoldable pub ComesOut : Worked → Type 0
ComesOut w =
    (best w.made (all w.pieces) ≡ w.comes_to)
    × (choice w.made (all w.pieces) ≡ w.chosen)
    × (for_each w.made (pays w.made (all w.pieces)) ≡ w.paid)

abbrev pub no_lot : Worked
no_lot = record { pieces = 0; made = []; comes_to = 0; chosen = []; paid = [] }

unfoldable pub AllComeOut : Type 0
AllComeOut = (k : ℕ) → k < length worked_lots → ComesOut (slice_index_or worked_lots k no_lot)
