-- Laws beyond what is promised, on which a solver rests. Each is a statement, a type whose proof is owed. Assumes nothing.
use Rattle.std.specs.Prelude.{◌≡◌, ℕ, zero, suc, ◌+◌, ◌-◌, ◌<◌, ◌≤◌, Bool, true, false, not, ◌&&◌, ◌||◌, ◌≢◌, List, [], ◌∷◌, ◌++◌, length, ◌==◌, slice_index, slice_index_or, slice_set}
use Rattle.auction.specs.Bids.{pick, Some, within, less, Bid, Bids, no_bid, with_some, best, given, choice, without, pays}
use Rattle.auction.specs.Promise.{worth, fits_all, sum_of, raised}

-- raising the price of a bid that was taken, not only the same pieces are got for the same payment: the same bid is taken, by its place
unfoldable pub RaisingKeepsPlace : Type 0
RaisingKeepsPlace =
    (bss : List Bids) (i j x : ℕ) (free : Some) → slice_index (choice bss free) i ≡ suc j →
    slice_index (choice (slice_set bss i (raised (slice_index_or bss i []) j x)) free) i ≡ suc j

-- a way to give the pieces away, by whatever rule for ties: it fits, and no way comes to more
abbrev pub BestWay : List Bids → Some → List ℕ → Type 0
BestWay bss free cs = (fits_all bss free cs ≡ true) × (sum_of bss cs ≡ best bss free)

-- what a bidder gets by such a way, and its Clarke payment: what the others could have had without it, less what they have
abbrev pub got_by : List Bids → List ℕ → ℕ → Bid
got_by bss cs i = given (slice_index_or bss i []) (slice_index cs i)

abbrev pub clarke : List Bids → Some → List ℕ → ℕ → ℕ
clarke bss free cs i = best (without bss i) free - (best bss free - (got_by bss cs i).price)

-- no rule for ties makes lying pay, also one that asks when the bids were made: whichever of the best ways are taken, once with the true bids and once with others
unfoldable pub NoTieRuleRewardsLying : Type 0
NoTieRuleRewardsLying =
    (bss : List Bids) (i : ℕ) (free : Some) (truth lie : Bids) (cs ds : List ℕ) → i < length bss →
    let honest : List Bids = slice_set bss i truth in
    let other : List Bids = slice_set bss i lie in
    BestWay honest free cs → BestWay other free ds →
    worth truth (got_by other ds i).on + clarke honest free cs i ≤ worth truth (got_by honest cs i).on + clarke other free ds i

-- any one bidder may be asked first, and the others settled with what it leaves
unfoldable pub AnyFirst : Type 0
AnyFirst = (bss : List Bids) (i : ℕ) (free : Some) → best bss free ≡ with_some (slice_index_or bss i []) free (best (without bss i))

-- the best of two groups of bidders is the most, over all ways to part the free pieces between them, of the sum of their bests:
-- no way to part them comes to more, and one comes to as much
unfoldable pub TwoGroups : Type 0
TwoGroups =
    (bss css : List Bids) (free : Some) →
    ((s : Some) → within s free ≡ true → best bss s + best css (less free s) ≤ best (bss ++ css) free)
    × ((s : Some) × (within s free ≡ true) × (best bss s + best css (less free s) ≡ best (bss ++ css) free))

-- do two sets share a piece
unfoldable pub touches : Some → Some → Bool
touches [] ys = false
touches (x ∷ xs) [] = false
touches (x ∷ xs) (y ∷ ys) = (x && y) || touches xs ys

-- the pieces of a bid, by its bidder and its place; none where there is no such bid
abbrev pub pieces_of : List Bids → ℕ → ℕ → Some
pieces_of bss i a = (slice_index_or (slice_index_or bss i []) a no_bid).on

-- pieces that nobody wants can be left out: that changes nothing of what it comes to, of what is taken or of what is paid
unfoldable pub UnwantedPieces : Type 0
UnwantedPieces =
    (bss : List Bids) (free unwanted : Some) → ((i a : ℕ) → touches (pieces_of bss i a) unwanted ≡ false) →
    (best bss (less free unwanted) ≡ best bss free)
    × (choice bss (less free unwanted) ≡ choice bss free)
    × ((i : ℕ) → pays bss (less free unwanted) i ≡ pays bss free i)

-- a group is a test of the bidders, by their numbers. Only those in it bid, each under its own number; the others bid nothing
unfoldable pub only : (ℕ → Bool) → List Bids → List Bids
only group [] = []
only group (bs ∷ bss) = pick (group 0) bs [] ∷ only (λ i. group (suc i)) bss

abbrev pub outside : (ℕ → Bool) → ℕ → Bool
outside group i = not (group i)

-- no bid of one in the group shares a piece with a bid of one outside
unfoldable pub Apart : (ℕ → Bool) → List Bids → Type 0
Apart group bss = (i j a c : ℕ) → group i ≡ true → group j ≡ false → touches (pieces_of bss i a) (pieces_of bss j c) ≡ false

-- of one bidder, that by two lists of bids, each on its own free pieces, it gets the same bid, ties included, for the same payment
unfoldable pub SameFor : List Bids → Some → List Bids → Some → ℕ → Type 0
SameFor bss s css t i = (slice_index (choice bss s) i ≡ slice_index (choice css t) i) × (pays bss s i ≡ pays css t i)

-- bidders whose pieces nobody else wants are settled by themselves, and so are the others, wherever they stand in the list
unfoldable pub SettledApart : Type 0
SettledApart =
    (group : ℕ → Bool) (bss : List Bids) (free : Some) → Apart group bss →
    (best bss free ≡ best (only group bss) free + best (only (outside group) bss) free)
    × ((i : ℕ) → group i ≡ true → SameFor bss free (only group bss) free i)
    × ((i : ℕ) → group i ≡ false → SameFor bss free (only (outside group) bss) free i)

-- the pieces of one set that are in the other too
abbrev pub shared : Some → Some → Some
shared s t = less s (less s t)

-- the group given by its pieces: its bids lie within them, and no bid from outside touches them. It is settled on them, and the others on the rest
unfoldable pub SettledOnPieces : Type 0
SettledOnPieces =
    (group : ℕ → Bool) (bss : List Bids) (free pieces : Some) →
    ((i a : ℕ) → group i ≡ true → within (pieces_of bss i a) pieces ≡ true) →
    ((i a : ℕ) → group i ≡ false → touches (pieces_of bss i a) pieces ≡ false) →
    (best bss free ≡ best (only group bss) (shared free pieces) + best (only (outside group) bss) (less free pieces))
    × ((i : ℕ) → group i ≡ true → SameFor bss free (only group bss) (shared free pieces) i)
    × ((i : ℕ) → group i ≡ false → SameFor bss free (only (outside group) bss) (less free pieces) i)

-- the same of many groups: each bidder is in the group with its number, and bids of two groups share no piece
unfoldable pub summed : ℕ → (ℕ → ℕ) → ℕ
summed zero f = 0
summed (suc m) f = summed m f + f m

abbrev pub numbered : (ℕ → ℕ) → ℕ → ℕ → Bool
numbered group_of g i = group_of i == g

unfoldable pub ManyGroups : Type 0
ManyGroups =
    (group_of : ℕ → ℕ) (groups : ℕ) (bss : List Bids) (free : Some) → ((i : ℕ) → i < length bss → group_of i < groups) →
    ((i j a c : ℕ) → group_of i ≢ group_of j → touches (pieces_of bss i a) (pieces_of bss j c) ≡ false) →
    (best bss free ≡ summed groups (λ g. best (only (numbered group_of g) bss) free))
    × ((i : ℕ) → SameFor bss free (only (numbered group_of (group_of i)) bss) free i)
