-- What is promised of payments, said of the answers to calls. Each is a statement, a type whose proof is owed. Assumes nothing.
use Rattle.std.specs.Prelude.{◌≡◌, ℕ, ◌+◌, ◌≤◌, Bool, false, ◌&&◌, List, [], ◌∷◌, ◌==◌}
use Rattle.auction.specs.Bids.{pick, Bids, given}
use Rattle.auction.specs.House.{Call, opens, bids, ticks, my_bids, result, brings, lot_is, garbled, two, list, Limits, House, answer, ran, new_house}
use Rattle.auction.specs.Promise.{worth}

-- is it a call by which bidder b bids on lot k; and calls without these
unfoldable pub own_bids : ℕ → ℕ → Call → Bool
own_bids k b (bids j c bs) = j == k && c == b
own_bids k b (opens n t) = false
own_bids k b (ticks n) = false
own_bids k b (my_bids j c) = false
own_bids k b (result j c) = false
own_bids k b (brings j) = false
own_bids k b (lot_is j) = false
own_bids k b (garbled n) = false

unfoldable pub but_own : ℕ → ℕ → List Call → List Call
but_own k b [] = []
but_own k b (c ∷ cs) = pick (own_bids k b c) (but_own k b cs) (c ∷ but_own k b cs)

-- a bid c was taken of true bids for a payment p, and a bid d of others for a payment q: what the others got, less what is paid then, is worth no more
abbrev pub NoGain : Bids → Bids → ℕ → ℕ → ℕ → ℕ → Type 0
NoGain truth lie c p d q = worth truth (given lie d).on + p ≤ worth truth (given truth c).on + q

-- TRUTHFULNESS over calls: of two lists of calls that differ only in a bidder's own bids on a lot, however often and whenever it bids, the one after which its true bids stand gets it no less
unfoldable pub TruthInCalls : Type 0
TruthInCalls =
    (l : Limits) (cs ds : List Call) (k b c p d q : ℕ) (truth lie : Bids) → but_own k b cs ≡ but_own k b ds →
    answer l (ran l new_house cs) (my_bids k b) ≡ list truth → answer l (ran l new_house ds) (my_bids k b) ≡ list lie →
    answer l (ran l new_house cs) (result k b) ≡ two c p → answer l (ran l new_house ds) (result k b) ≡ two d q →
    NoGain truth lie c p d q

-- a bid c was taken of these bids for a payment p: no more is paid than was bid, nothing for nothing, and to who bids the truth what is got is worth what is paid
abbrev pub Fair : Bids → ℕ → ℕ → Type 0
Fair bs c p = (p ≤ (given bs c).price) × (c ≡ 0 → p ≡ 0) × (p ≤ worth bs (given bs c).on)

unfoldable pub FairResults : Type 0
FairResults =
    (l : Limits) (h : House) (k b c p : ℕ) (bs : Bids) → answer l h (my_bids k b) ≡ list bs → answer l h (result k b) ≡ two c p → Fair bs c p
