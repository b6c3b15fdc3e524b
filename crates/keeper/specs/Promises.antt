-- What else the keeper is held to. Each is a statement, a type whose proof is owed. Assumes nothing.
use Rattle.std.specs.Prelude.{◌≡◌, ℕ, ◌<◌, Bool, true, ◌≢◌, List, [], ◌∷◌, ◌++◌}
use Rattle.auction.specs.Bids.{Bids, pick}
use Rattle.auction.specs.House.{Call, bids, Answer, refused, Limits, the_lot, ran, new_house}
use Rattle.auction.specs.Promise.{Keeper, Memory, GoodLimits, all_readable, left_by, told_by, others_on, but_others}
use Rattle.ledger.specs.Houses.{is_house}
use Rattle.keeper.specs.Keeping.{turned_in, next_in, says_in}

-- what was opened is always a house: no answer refuses by 3
unfoldable pub NeverThree : Keeper → Type 0
NeverThree k =
    (l : Limits) (cs : List Call) (c : Call) (p : ℕ) → GoodLimits l → all_readable cs ≡ true → k.says (left_by k (k.opened l) cs) c ≢ refused 3 p

-- what a keeper answers, but not to the calls of others than bidder b on lot k
unfoldable pub told_but : ℕ → ℕ → Keeper → Memory → List Call → List Answer
told_but k b r m [] = []
told_but k b r m (c ∷ cs) = pick (others_on k b c) [] (r.says m c ∷ []) ++ told_but k b r (r.next m c) cs

-- SEALED BIDS, over what is answered: as long as lot k is open, all other answers are as if the others had made no calls there
unfoldable pub SealedAnswers : (ℕ → Bool) → Keeper → Type 0
SealedAnswers can r =
    (l : Limits) (cs : List Call) (k b : ℕ) → GoodLimits l → l.calls_can ≡ can → all_readable cs ≡ true → (ran l new_house cs).now < (the_lot (ran l new_house cs) k).until →
    told_but k b r (r.opened l) cs ≡ told_by r (r.opened l) (but_others k b cs)

-- what lies behind a house's words stays as it is, and has no part in the answers, whatever the call
unfoldable pub BehindStays : Type 0
BehindStays = (m r : List ℕ) (c : Call) → is_house m ≡ true → (next_in (m ++ r) c ≡ next_in m c ++ r) × (says_in (m ++ r) c ≡ says_in m c)

-- BIDDING TWICE LEAVES NO TRACE, whatever the words are: bids that could be taken are taken after others of the same bidder on the lot, and leave the very words that they leave without those
unfoldable pub NoTrace : Type 0
NoTrace =
    (m : List ℕ) (k b : ℕ) (xs ys : Bids) → turned_in m (bids k b xs) ≡ 0 → turned_in m (bids k b ys) ≡ 0 →
    (turned_in (next_in m (bids k b xs)) (bids k b ys) ≡ 0) × (next_in (next_in m (bids k b xs)) (bids k b ys) ≡ next_in m (bids k b ys))
