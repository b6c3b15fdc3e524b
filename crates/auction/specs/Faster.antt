-- Laws by which a lot can be settled with less work than all ways to part its pieces. Each is a statement, a type whose proof is owed. Assumes nothing.
use Rattle.std.specs.Prelude.{◌≡◌, ℕ, ◌+◌, ◌<◌, ◌≤◌, Bool, true, false, ◌&&◌, ◌≢◌, List, [], ◌∷◌, ◌++◌, map, length, take, drop, count_by, nat_le, slice_index, slice_index_or}
use Rattle.auction.specs.Bids.{Some, within, less, all, Bid, Bids, no_bid, with_some, best, first_good, choice, without, pays}
use Rattle.auction.specs.Laws.{pieces_of, shared}

-- the pieces of the second set that stand at the places of the first, moved together
unfoldable pub packed : Some → Some → Some
packed [] s = []
packed (true ∷ m) [] = false ∷ packed m []
packed (true ∷ m) (x ∷ s) = x ∷ packed m s
packed (false ∷ m) [] = packed m []
packed (false ∷ m) (x ∷ s) = packed m s

abbrev pub packed_bid : Some → Bid → Bid
packed_bid m b = record { on = packed m b.on; price = b.price }

abbrev pub all_packed : Some → List Bids → List Bids
all_packed m bss = map (map (packed_bid m)) bss

-- moving the pieces that are bid for together changes nothing of what it comes to, of what is taken or of what is paid
unfoldable pub PackedPieces : Type 0
PackedPieces =
    (m : Some) (bss : List Bids) (free : Some) → ((i a : ℕ) → within (pieces_of bss i a) m ≡ true) →
    (best (all_packed m bss) (packed m free) ≡ best bss free)
    × (choice (all_packed m bss) (packed m free) ≡ choice bss free)
    × ((i : ℕ) → pays (all_packed m bss) (packed m free) i ≡ pays bss free i)

-- how many pieces a set has
abbrev pub how_many : Some → ℕ
how_many s = count_by (λ (x : Bool). x) s

-- moved together, a set that has all those pieces is everything of so many, and no other pieces than those count
unfoldable pub PackedSets : Type 0
PackedSets =
    (m s : Some) → (within m s ≡ true → packed m s ≡ all (how_many m)) × (packed m (shared s m) ≡ packed m s)

-- what there is to be had without one bidder is the most, over all ways to part the free pieces, of what those before it and those after it have:
-- no way to part them comes to more, and one comes to as much
unfoldable pub Joined : Type 0
Joined =
    (bss : List Bids) (i : ℕ) (free : Some) →
    ((s : Some) → within s free ≡ true → best (take i bss) s + best (drop (i + 1) bss) (less free s) ≤ best (without bss i) free)
    × ((s : Some) × (within s free ≡ true) × (best (take i bss) s + best (drop (i + 1) bss) (less free s) ≡ best (without bss i) free))

-- a bidder behind the last may be asked first
unfoldable pub LastAdded : Type 0
LastAdded = (bss : List Bids) (bs : Bids) (free : Some) → best (bss ++ (bs ∷ [])) free ≡ with_some bs free (best bss)

-- so the best of the first bidders is had from that of one bidder less
unfoldable pub OneMore : Type 0
OneMore = (bss : List Bids) (i : ℕ) (free : Some) → i < length bss → best (take (i + 1) bss) free ≡ with_some (slice_index_or bss i []) free (best (take i bss))

-- the first bid is on no other pieces than the second, and as dear or dearer
abbrev pub covers : Bid → Bid → Bool
covers b c = within b.on c.on && nat_le c.price b.price

-- of the bids that were made some are kept: each of these is one of those, and each of those is covered by one of these. A place past the end is no bid,
-- which covers a bid of nothing
pub record Kept (kept made : Bids) : Type 0 where
  pub among : (j : ℕ) → j < length kept → (i : ℕ) × (slice_index_or made i no_bid ≡ slice_index_or kept j no_bid)
  pub covered : (i : ℕ) → i < length made → (j : ℕ) × (covers (slice_index_or kept j no_bid) (slice_index_or made i no_bid) ≡ true)

-- as much is had with those that are kept, whatever the others bring, so long as more pieces never bring them less
unfoldable pub KeptBids : Type 0
KeptBids =
    (kept made : Bids) (free : Some) (rest : Some → ℕ) → Kept kept made → ((s t : Some) → within s t ≡ true → rest s ≤ rest t) →
    with_some kept free rest ≡ with_some made free rest

-- the best stays, of all bidders and without any one, when of each only those are kept
unfoldable pub KeptBest : Type 0
KeptBest =
    (kepts bss : List Bids) (free : Some) → length kepts ≡ length bss → ((i : ℕ) → i < length bss → Kept (slice_index_or kepts i []) (slice_index_or bss i [])) →
    (best kepts free ≡ best bss free) × ((i : ℕ) → best (without kepts i) free ≡ best (without bss i) free)

-- one bidder where all others bid nothing: the most that it offers is had, the first such bid of its is taken, and nothing is paid
unfoldable pub LoneBidder : Type 0
LoneBidder =
    (bss : List Bids) (i : ℕ) (free : Some) → ((j : ℕ) → j ≢ i → slice_index_or bss j [] ≡ []) →
    let bs : Bids = slice_index_or bss i [] in
    let most : ℕ = with_some bs free (λ _. 0) in
    (best bss free ≡ most) × (slice_index (choice bss free) i ≡ first_good bs free (λ _. 0) most 0) × (pays bss free i ≡ 0)
