-- The parts of a call's line: blanks, words, numbers, sets of pieces and bids. Assumes nothing: these are definitions.
use Rattle.std.specs.Prelude.{ℕ, zero, suc, ◌+◌, ◌-◌, ◌*◌, ◌^◌, Bool, true, false, ◌&&◌, ◌||◌, List, [], ◌∷◌, drop, Some, None, Option, Ok, Err, Result, ◌==◌, bit_and, bit_or, nat_eq, nat_le, nat_lt}
use Rattle.auction.specs.Bids.{Bid, Bids, pick}
use Rattle.bundles.specs.Masks.{bits}
use Rattle.reading.specs.Reads.{Read, got, stuck, then}
use Rattle.reading.specs.Runs.{Run, further, halted, made, read_of}
use Rattle.reading.specs.declared.reader.Unreadable.{Unreadable}

-- what is made of a value, if there is one
abbrev pub given : {A X : Type 0} → Option A → X → (A → X) → X
given None none some = none
given (Some a) none some = some a

-- the next byte, if the line goes on
abbrev pub next : List ℕ → Option ℕ
next [] = None
next (b ∷ bs) = Some b

abbrev pub starts : (ℕ → Bool) → List ℕ → Bool
starts p bs = given (next bs) false p

-- a space, a tab or a carriage return
abbrev pub blank : ℕ → Bool
blank b = b == 32 || (b == 9 || b == 13)

-- what follows the blanks
unfoldable pub skip : List ℕ → List ℕ
skip [] = []
skip (b ∷ bs) = pick (blank b) (skip bs) (b ∷ bs)

-- one blank or more
abbrev pub gap : List ℕ → Read (Unit {0})
gap bs = pick (starts blank bs) (got tt (skip bs)) (stuck bs)

-- just this byte, where a space stands for one blank or more
abbrev pub byte : ℕ → List ℕ → Read (Unit {0})
byte w bs = pick (w == 32) (gap bs) (pick (starts (λ b. nat_eq b w) bs) (got tt (drop 1 bs)) (stuck bs))

-- just these bytes
unfoldable pub spelt : List ℕ → List ℕ → Read (Unit {0})
spelt [] bs = got tt bs
spelt (w ∷ ws) bs = then (byte w bs) (λ _ left. spelt ws left)

-- nothing but blanks
abbrev pub end : List ℕ → Read (Unit {0})
end bs = given (next (skip bs)) (got tt (skip bs)) (λ _. stuck (skip bs))

-- as long as the bytes are of a sort, each makes more of n; at the first that can't it halts
unfoldable pub grown : {X D E : Type 0} → (ℕ → Option D) → (X → D → Result X E) → X → List ℕ → Run X E
grown sort more n [] = made n []
grown sort more n (b ∷ bs) = given (sort b) (made n (b ∷ bs)) (λ d. further (more n d) (b ∷ bs) (λ m. grown sort more m bs))

-- one byte of the sort or more; e: there is none
abbrev pub some_of : {X D E : Type 0} → (ℕ → Option D) → (X → D → Result X E) → X → E → List ℕ → Run X E
some_of sort more n e bs = given (given (next bs) None sort) (halted e bs) (λ _. grown sort more n bs)

-- as it can be made, or not
abbrev pub if_any : {X : Type 0} → Option X → Result X Unreadable
if_any o = given o (Err (record {})) (λ x. Ok x)

-- a number in decimal digits, below 2 ^ 32
abbrev pub digit : ℕ → Option ℕ
digit b = pick (nat_le 48 b && nat_le b 57) (Some (b - 48)) None

abbrev pub longer : ℕ → ℕ → Option ℕ
longer n d = pick (nat_lt (10 * n + d) 4294967296) (Some (10 * n + d)) None

abbrev pub number : List ℕ → Read ℕ
number bs = read_of (some_of digit (λ n d. if_any (longer n d)) 0 (record {}) bs)

-- a set of pieces, none twice, as the bits of a number
abbrev pub piece : ℕ → Option ℕ
piece b = pick (nat_le 48 b && nat_le b 57) (Some (b - 48)) (pick (nat_le 97 b && nat_le b 102) (Some (b - 87)) None)

abbrev pub larger : ℕ → ℕ → Option ℕ
larger m p = pick (bit_and m (2 ^ p) == 0) (Some (bit_or m (2 ^ p))) None

abbrev pub set_of : List ℕ → Read ℕ
set_of bs = read_of (some_of piece (λ m p. if_any (larger m p)) 0 (record {}) bs)

abbrev pub field : List ℕ → Read ℕ
field bs = then (gap bs) (λ _ left. number left)

-- a set and a price
abbrev pub bid : List ℕ → Read Bid
bid bs = then (set_of bs) (λ m left. then (field left) (λ p behind. got (record { on = bits 16 m; price = p }) behind))

abbrev pub comma : List ℕ → Bool
comma bs = starts (λ b. nat_eq b 44) bs

-- one bid or more, at most n
unfoldable pub several : ℕ → List ℕ → Read Bids
several zero bs = stuck bs
several (suc n) bs =
    then (bid bs) (λ b left. pick (comma (skip left) && nat_lt 0 n) (then (several n (skip (drop 1 (skip left)))) (λ more behind. got (b ∷ more) behind)) (got (b ∷ []) (skip left)))

-- all the bids of a call: none where the line ends, and 255 at most
abbrev pub bid_list : List ℕ → Read Bids
bid_list bs = given (next (skip bs)) (got [] (skip bs)) (λ _. several 255 (skip bs))

-- no call, and no answer: nothing but blanks, or a remark behind them
abbrev pub silent : List ℕ → Bool
silent bs = given (next (skip bs)) true (λ b. nat_eq b 35)
