-- What is promised. Each is a statement, a type whose proof is owed. Assumes nothing.
use Rattle.std.specs.Prelude.{◌≡◌, ℕ, suc, ◌+◌, ◌*◌, ◌<◌, ◌≤◌, Bool, true, false, not, ◌&&◌, ◌||◌, ◌≢◌, List, [], ◌∷◌, ◌++◌, length, ◌==◌, nat_le, nat_lt, slice_index, slice_index_or, slice_set}
use Rattle.auction.specs.Bids.{pick, Some, within, less, all, Bids, no_bid, larger, best, choice, given, taken, pays}
use Rattle.auction.specs.House.{Call, opens, bids, ticks, my_bids, result, brings, lot_is, garbled, Answer, Limits, House, the_lot, prices_fine, turned, after, answer, answers, ran, new_house}

abbrev pub GoodLimits : Limits → Type 0
GoodLimits l = (l.lots ≤ 4096) × (0 < l.bidders) × (l.bidders ≤ 32) × (l.each ≤ 16)

abbrev pub field : ℕ → Bool
field n = nat_lt n 4294967296

unfoldable pub fields_of : Bids → Bool
fields_of [] = true
fields_of (b ∷ bs) = (field b.price && length b.on == 16) && fields_of bs

unfoldable pub readable : Call → Bool
readable (opens n t) = field n && field t
readable (bids k b bs) = (field k && field b) && (nat_lt (length bs) 256 && fields_of bs)
readable (ticks n) = field n
readable (my_bids k b) = field k && field b
readable (result k b) = field k && field b
readable (brings k) = field k
readable (lot_is k) = field k
readable (garbled n) = field n

unfoldable pub all_readable : List Call → Bool
all_readable [] = true
all_readable (c ∷ cs) = readable c && all_readable cs

-- THE MAIN PROMISE. A keeper is a house that runs: what the contracts of the session's open and call say of the lent memory and of the answer. For every list of calls its answers are those of
-- the written house, in which every way to give the pieces away is gone through each time; what it keeps of lots that are closed has no part in that
pub record Memory : Type 0 where
  pub words : List ℕ

pub record Keeper : Type 0 where
  pub opened : Limits → Memory
  pub next : Memory → Call → Memory
  pub says : Memory → Call → Answer

unfoldable pub told_by : Keeper → Memory → List Call → List Answer
told_by k m [] = []
told_by k m (c ∷ cs) = k.says m c ∷ told_by k (k.next m c) cs

unfoldable pub left_by : Keeper → Memory → List Call → Memory
left_by k m [] = m
left_by k m (c ∷ cs) = left_by k (k.next m c) cs

unfoldable pub Right : (ℕ → Bool) → Keeper → Type 0
Right can k = (l : Limits) (cs : List Call) → GoodLimits l → l.calls_can ≡ can → all_readable cs ≡ true → told_by k (k.opened l) cs ≡ answers l new_house cs

unfoldable pub RefusalKeeps : (ℕ → Bool) → Keeper → Type 0
RefusalKeeps can k =
    (l : Limits) (cs : List Call) (c : Call) → GoodLimits l → l.calls_can ≡ can → all_readable (cs ++ (c ∷ [])) ≡ true → 0 < turned l (ran l new_house cs) c →
    k.next (left_by k (k.opened l) cs) c ≡ left_by k (k.opened l) cs

unfoldable pub all_below : ℕ → List ℕ → Bool
all_below b [] = true
all_below b (x ∷ xs) = nat_lt x b && all_below b xs

unfoldable pub EnoughMemory : Keeper → Type 0
EnoughMemory k =
    (l : Limits) (cs : List Call) → GoodLimits l → all_readable cs ≡ true →
    (length (left_by k (k.opened l) cs).words ≤ 2 * (l.lots * l.bidders * l.each) + 8 * l.lots + 131072 * l.bidders + 524288)
    × (all_below 4294967296 (left_by k (k.opened l) cs).words ≡ true)

-- which calls a house can do, by their numbers: the first stage opens, takes bids, lets time go by, and says which lots there are; the whole house can do all
abbrev pub thin : ℕ → Bool
thin k = nat_lt k 4 || k == 6

abbrev pub whole : ℕ → Bool
whole k = true

-- TRUTHFULNESS: nobody gains by bidding anything but the truth. What some pieces are worth to a bidder is the most that one of its true bids within them says
unfoldable pub worth : Bids → Some → ℕ
worth [] s = 0
worth (b ∷ bs) s = larger (pick (within b.on s) b.price 0) (worth bs s)

unfoldable pub TruthIsBest : Type 0
TruthIsBest =
    (bss : List Bids) (i n : ℕ) (truth lie : Bids) → i < length bss →
    let honest : List Bids = slice_set bss i truth in
    let other : List Bids = slice_set bss i lie in
    worth truth (taken other (all n) i).on + pays honest (all n) i ≤ worth truth (taken honest (all n) i).on + pays other (all n) i

-- SEALED BIDS: as long as a lot is open, whatever anybody else bids on it changes no answer but to their own calls there
unfoldable pub others_on : ℕ → ℕ → Call → Bool
others_on k b (bids j c bs) = j == k && not (c == b)
others_on k b (my_bids j c) = j == k && not (c == b)
others_on k b (opens n t) = false
others_on k b (ticks n) = false
others_on k b (result j c) = false
others_on k b (brings j) = false
others_on k b (lot_is j) = false
others_on k b (garbled n) = false

unfoldable pub but_others : ℕ → ℕ → List Call → List Call
but_others k b [] = []
but_others k b (c ∷ cs) = pick (others_on k b c) (but_others k b cs) (c ∷ but_others k b cs)

unfoldable pub answers_but : ℕ → ℕ → Limits → House → List Call → List Answer
answers_but k b l h [] = []
answers_but k b l h (c ∷ cs) = pick (others_on k b c) [] (answer l h c ∷ []) ++ answers_but k b l (after l h c) cs

unfoldable pub Sealed : Type 0
Sealed =
    (l : Limits) (cs : List Call) (k b : ℕ) → (ran l new_house cs).now < (the_lot (ran l new_house cs) k).until →
    answers_but k b l new_house cs ≡ answers l new_house (but_others k b cs)

-- 1. what is given away is given once, and is the best of all: no way to take one bid at most of each bidder, with no piece twice, comes to more
unfoldable pub fits_all : List Bids → Some → List ℕ → Bool
fits_all [] free cs = true
fits_all (bs ∷ bss) free [] = fits_all bss free []
fits_all (bs ∷ bss) free (c ∷ cs) = (nat_le c (length bs) && within (given bs c).on free) && fits_all bss (less free (given bs c).on) cs

unfoldable pub sum_of : List Bids → List ℕ → ℕ
sum_of [] cs = 0
sum_of (bs ∷ bss) [] = 0
sum_of (bs ∷ bss) (c ∷ cs) = (given bs c).price + sum_of bss cs

unfoldable pub BestOfAll : Type 0
BestOfAll =
    (bss : List Bids) (free : Some) →
    (fits_all bss free (choice bss free) ≡ true) × (sum_of bss (choice bss free) ≡ best bss free)
    × ((cs : List ℕ) → fits_all bss free cs ≡ true → sum_of bss cs ≤ best bss free)

-- 2. nobody pays more than it bid, and who gets nothing pays nothing
unfoldable pub NotMoreThanBid : Type 0
NotMoreThanBid =
    (bss : List Bids) (i n : ℕ) → i < length bss →
    (pays bss (all n) i ≤ (taken bss (all n) i).price) × (slice_index (choice bss (all n)) i ≡ 0 → pays bss (all n) i ≡ 0)

-- 3. who is truthful never loses: what is got is worth what is paid
unfoldable pub NeverLoses : Type 0
NeverLoses = (bss : List Bids) (i n : ℕ) → i < length bss → pays bss (all n) i ≤ worth (slice_index_or bss i []) (taken bss (all n) i).on

-- 4. a higher price never loses a bid that was taken: if a bidder's bid was taken, it still is when only that price is raised, and no more is paid
unfoldable pub raised : Bids → ℕ → ℕ → Bids
raised bs j x = slice_set bs j (record { on = (slice_index_or bs j no_bid).on; price = (slice_index_or bs j no_bid).price + x })

unfoldable pub RaisingKeeps : Type 0
RaisingKeeps =
    (bss : List Bids) (i j x n : ℕ) → i < length bss → prices_fine (slice_index_or bss i []) ≡ true → slice_index (choice bss (all n)) i ≡ suc j →
    let more : List Bids = slice_set bss i (raised (slice_index_or bss i []) j x) in
    ((taken more (all n) i).on ≡ (taken bss (all n) i).on) × (pays more (all n) i ≡ pays bss (all n) i)

-- 5. a closed lot stays as it is
unfoldable pub ClosedStays : Type 0
ClosedStays =
    (l : Limits) (h : House) (c : Call) (k : ℕ) → k < length h.lots → (the_lot h k).until ≤ h.now → the_lot (after l h c) k ≡ the_lot h k

-- 6. lots by themselves: what is bid on one changes no other
unfoldable pub LotsApart : Type 0
LotsApart = (l : Limits) (h : House) (j b k : ℕ) (bs : Bids) → j ≢ k → the_lot (after l h (bids j b bs)) k ≡ the_lot h k

-- 7. the last bids count: who bids twice is as if the first bids had never been
unfoldable pub LastCounts : Type 0
LastCounts =
    (l : Limits) (h : House) (k b : ℕ) (xs ys : Bids) → turned l h (bids k b xs) ≡ 0 → turned l h (bids k b ys) ≡ 0 →
    after l (after l h (bids k b xs)) (bids k b ys) ≡ after l h (bids k b ys)

-- 8. a call that is turned away changes nothing that can be told afterwards
unfoldable pub TurnedAway : Type 0
TurnedAway = (l : Limits) (h : House) (c : Call) (cs : List Call) → 0 < turned l h c → answers l (after l h c) cs ≡ answers l h cs
