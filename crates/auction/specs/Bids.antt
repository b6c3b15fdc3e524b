-- Bids on sets of pieces, the best way to give them away, and what each winner pays. Assumes nothing: these are definitions.
use Rattle.std.specs.Prelude.{ℕ, zero, suc, ◌+◌, ◌-◌, Bool, true, false, not, ◌&&◌, ◌||◌, List, [], ◌∷◌, ◌==◌, nat_lt, slice_index, slice_index_or}

abbrev pub pick : {A : Type 0} → Bool → A → A → A
pick true a b = a
pick false a b = b

-- a set of pieces: for each piece of the lot whether it is in it
abbrev pub Some : Type 0
Some = List Bool

-- is one set within another; what is left of a set; nothing and everything of n pieces
unfoldable pub within : Some → Some → Bool
within [] ys = true
within (x ∷ xs) [] = not x && within xs []
within (x ∷ xs) (y ∷ ys) = (not x || y) && within xs ys

unfoldable pub less : Some → Some → Some
less [] ys = []
less (x ∷ xs) [] = x ∷ xs
less (x ∷ xs) (y ∷ ys) = (x && not y) ∷ less xs ys

unfoldable pub all : ℕ → Some
all zero = []
all (suc n) = true ∷ all n

unfoldable pub none : ℕ → Some
none zero = []
none (suc n) = false ∷ none n

-- a bid: for these pieces, and no others, so much. A bidder makes several, of which one at most is taken
pub record Bid : Type 0 where
  pub on : Some
  pub price : ℕ

abbrev pub Bids : Type 0
Bids = List Bid

abbrev pub larger : ℕ → ℕ → ℕ
larger a b = pick (nat_lt a b) b a

-- the most that can be had for the pieces that are free, from bidders one after the other
unfoldable pub with_some : Bids → Some → (Some → ℕ) → ℕ
with_some [] free rest = rest free
with_some (b ∷ bs) free rest = larger (pick (within b.on free) (b.price + rest (less free b.on)) 0) (with_some bs free rest)

unfoldable pub best : List Bids → Some → ℕ
best [] free = 0
best (bs ∷ bss) free = with_some bs free (best bss)

-- who gets what: each bidder in turn the first of its bids with which the most is still had, and none if none is such
unfoldable pub first_good : Bids → Some → (Some → ℕ) → ℕ → ℕ → ℕ
first_good [] free rest most i = 0
first_good (b ∷ bs) free rest most i =
    pick (within b.on free && b.price + rest (less free b.on) == most) (suc i) (first_good bs free rest most (suc i))

abbrev pub no_bid : Bid
no_bid = record { on = []; price = 0 }

-- of a bidder's bids the one taken, one more than its place, or 0
unfoldable pub given : Bids → ℕ → Bid
given bs zero = no_bid
given bs (suc i) = slice_index_or bs i no_bid

unfoldable pub choice : List Bids → Some → List ℕ
choice [] free = []
choice (bs ∷ bss) free =
    let c : ℕ = first_good bs free (best bss) (best (bs ∷ bss) free) 0 in
    c ∷ choice bss (less free (given bs c).on)

-- all bidders but one make their bids
unfoldable pub without : List Bids → ℕ → List Bids
without [] i = []
without (bs ∷ bss) zero = [] ∷ bss
without (bs ∷ bss) (suc i) = bs ∷ without bss i

-- what a winner pays: what the others could have had without it, less what they have
abbrev pub taken : List Bids → Some → ℕ → Bid
taken bss free i = given (slice_index_or bss i []) (slice_index (choice bss free) i)

abbrev pub others_have : List Bids → Some → ℕ → ℕ
others_have bss free i = best bss free - (taken bss free i).price

abbrev pub pays : List Bids → Some → ℕ → ℕ
pays bss free i = best (without bss i) free - others_have bss free i
