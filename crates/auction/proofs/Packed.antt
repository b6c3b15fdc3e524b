-- Moving pieces together: sets lie within one another as before, and what is left of one is what is left, moved together. So all stays as it was.
-- Assumes nothing.
use Rattle.std.proofs.Common.{◌≡◌, ℕ, zero, suc, ◌+◌, Bool, true, false, cond, not, ◌&&◌, ◌||◌, ◌⊎◌, List, [], ◌∷◌, map, get_or, sym, refl, ap, ◌∙◌, ap₂, inl, inr, one-add}
use lib.ListN.{get_or-map}
use Rattle.std.proofs.lemmas.Bool.{false≢true, and_parts}
use Rattle.std.proofs.lemmas.List.Sums.{sum_by-cons}
use Rattle.auction.specs.Bids.{Some, within, less, all, Bid, Bids, no_bid, with_some, best, first_good, given, choice, without, taken, pays}
use Rattle.auction.specs.Laws.{pieces_of, shared}
use Rattle.auction.specs.Faster.{packed, packed_bid, all_packed, PackedPieces, how_many, PackedSets}
use Rattle.auction.proofs.Sets.{and_true, within_trans, less-nothing}
use Rattle.auction.proofs.Unwanted.{Fewer, fewer_without}

packed-nothing : (m t : Some) → within (packed m []) t ≡ true
unfolding packed within
packed-nothing [] t = refl
packed-nothing (true ∷ m) [] = packed-nothing m []
packed-nothing (true ∷ m) (y ∷ t) = packed-nothing m t
packed-nothing (false ∷ m) t = packed-nothing m t

pub within-packed : (m a s : Some) → within a m ≡ true → within (packed m a) (packed m s) ≡ within a s
unfolding packed within
within-packed [] a s w = sym (within_trans a [] s w refl)
within-packed (x ∷ m) [] s w = packed-nothing (x ∷ m) (packed (x ∷ m) s)
within-packed (true ∷ m) (true ∷ a) [] w = refl
within-packed (true ∷ m) (false ∷ a) [] w = within-packed m a [] w
within-packed (true ∷ m) (y ∷ a) (z ∷ s) w =
    ap (λ (t : Bool). (not y || z) && t) (within-packed m a s (and_parts (not y || true) (within a m) w).1)
within-packed (false ∷ m) (true ∷ a) s w = absurd (false≢true w)
within-packed (false ∷ m) (false ∷ a) [] w = within-packed m a [] w
within-packed (false ∷ m) (false ∷ a) (z ∷ s) w = within-packed m a s w

pub less-packed : (m s x : Some) → less (packed m s) (packed m x) ≡ packed m (less s x)
unfolding packed less
less-packed [] s x = refl
less-packed (true ∷ m) [] [] = ap (λ (t : Some). false ∷ t) (less-packed m [] [])
less-packed (true ∷ m) [] (y ∷ x) = ap (λ (t : Some). false ∷ t) (less-packed m [] x)
less-packed (true ∷ m) (z ∷ s) [] =
    ap₂ (λ (t : Bool) (u : Some). t ∷ u) (sym (and_true z)) (less-packed m s [] ∙ ap (packed m) (less-nothing s))
less-packed (true ∷ m) (z ∷ s) (y ∷ x) = ap (λ (t : Some). (z && not y) ∷ t) (less-packed m s x)
less-packed (false ∷ m) [] [] = less-packed m [] []
less-packed (false ∷ m) [] (y ∷ x) = less-packed m [] x
less-packed (false ∷ m) (z ∷ s) [] = less-packed m s [] ∙ ap (packed m) (less-nothing s)
less-packed (false ∷ m) (z ∷ s) (y ∷ x) = less-packed m s x

-- one bidder, with the others settled as before by what is left, moved together
module _ (m free : Some) (f g : Some → ℕ) (same : (x : Some) → g (packed m x) ≡ f x) where
  offer-packed : (b : Bid) → b.price + g (less (packed m free) (packed m b.on)) ≡ b.price + f (less free b.on)
  offer-packed b = ap (λ (n : ℕ). b.price + n) (ap g (less-packed m free b.on) ∙ same (less free b.on))

  some_packed : (bs : Bids) → ((j : ℕ) → within (get_or bs j no_bid).on m ≡ true) →
      with_some (map (packed_bid m) bs) (packed m free) g ≡ with_some bs free f
  unfolding with_some
  some_packed [] h = same free
  some_packed (b ∷ bs) h = rw (within-packed m b.on free (h 0), offer-packed b, some_packed bs (λ j. h (suc j))) refl

  good-packed : (bs : Bids) (most i : ℕ) → ((j : ℕ) → within (get_or bs j no_bid).on m ≡ true) →
      first_good (map (packed_bid m) bs) (packed m free) g most i ≡ first_good bs free f most i
  unfolding first_good
  good-packed [] most i h = refl
  good-packed (b ∷ bs) most i h = rw (within-packed m b.on free (h 0), offer-packed b, good-packed bs most (suc i) (λ j. h (suc j))) refl

-- the pieces of all bids lie within the set
unfoldable pub Held : Some → List Bids → Type 0
Held m bss = (i a : ℕ) → within (pieces_of bss i a) m ≡ true

held_first : (m : Some) (bs : Bids) (bss : List Bids) → Held m (bs ∷ bss) → (j : ℕ) → within (get_or bs j no_bid).on m ≡ true
unfolding Held
held_first m bs bss h = h 0

held_later : (m : Some) (bs : Bids) (bss : List Bids) → Held m (bs ∷ bss) → Held m bss
unfolding Held
held_later m bs bss h = λ i. h (suc i)

held_fewer : (m : Some) (bss css : List Bids) → Fewer css bss → Held m bss → Held m css
unfolding Fewer Held within
held_fewer m bss css fewer h = λ j c. go j c (fewer j)
  where
    go : (j c : ℕ) → (get_or css j [] ≡ get_or bss j []) ⊎ (get_or css j [] ≡ []) → within (pieces_of css j c) m ≡ true
    go j c (inl e) = ap (λ (bs : Bids). within (get_or bs c no_bid).on m) e ∙ h j c
    go j c (inr e) = ap (λ (bs : Bids). within (get_or bs c no_bid).on m) e

pub best-packed : (m : Some) (bss : List Bids) (free : Some) → Held m bss → best (all_packed m bss) (packed m free) ≡ best bss free
unfolding best
best-packed m [] free h = refl
best-packed m (bs ∷ bss) free h =
    some_packed m free (best bss) (best (all_packed m bss)) (λ x. best-packed m bss x (held_later m bs bss h)) bs (held_first m bs bss h)

-- what a bid leaves, moved together, and its price; where there is no bid that is all of it, and nothing
left_at : (m free : Some) (bs : Bids) (j : ℕ) → less (packed m free) (get_or (map (packed_bid m) bs) j no_bid).on ≡ packed m (less free (get_or bs j no_bid).on)
left_at m free [] j = less-nothing (packed m free) ∙ ap (packed m) (sym (less-nothing free))
left_at m free (b ∷ bs) zero = less-packed m free b.on
left_at m free (b ∷ bs) (suc j) = left_at m free bs j

left-packed : (m free : Some) (bs : Bids) (c : ℕ) → less (packed m free) (given (map (packed_bid m) bs) c).on ≡ packed m (less free (given bs c).on)
unfolding given
left-packed m free bs zero = left_at m free [] 0
left-packed m free bs (suc j) = left_at m free bs j

price-at : (m : Some) (bs : Bids) (j : ℕ) → (get_or (map (packed_bid m) bs) j no_bid).price ≡ (get_or bs j no_bid).price
price-at m [] j = refl
price-at m (b ∷ bs) zero = refl
price-at m (b ∷ bs) (suc j) = price-at m bs j

price-packed : (m : Some) (bs : Bids) (c : ℕ) → (given (map (packed_bid m) bs) c).price ≡ (given bs c).price
unfolding given
price-packed m bs zero = refl
price-packed m bs (suc j) = price-at m bs j

pub choice-packed : (m : Some) (bss : List Bids) (free : Some) → Held m bss → choice (all_packed m bss) (packed m free) ≡ choice bss free
unfolding choice best
choice-packed m [] free h = refl
choice-packed m (bs ∷ bss) free h =
    let c : ℕ = first_good bs free (best bss) (best (bs ∷ bss) free) 0 in
    let packed-left : ℕ → Some = λ d. less (packed m free) (given (map (packed_bid m) bs) d).on in
    let later : Held m bss = held_later m bs bss h in
    ap (λ (d : ℕ). d ∷ choice (all_packed m bss) (packed-left d))
    (ap (λ (n : ℕ). first_good (map (packed_bid m) bs) (packed m free) (best (all_packed m bss)) n 0) (best-packed m (bs ∷ bss) free h)
    ∙ good-packed m free (best bss) (best (all_packed m bss)) (λ x. best-packed m bss x later) bs (best (bs ∷ bss) free) 0 (held_first m bs bss h))
    ∙ ap (λ (s : Some). c ∷ choice (all_packed m bss) s) (left-packed m free bs c)
    ∙ ap (λ (cs : List ℕ). c ∷ cs) (choice-packed m bss (less free (given bs c).on) later)

without-packed : (m : Some) (bss : List Bids) (i : ℕ) → without (all_packed m bss) i ≡ all_packed m (without bss i)
unfolding without
without-packed m [] i = refl
without-packed m (bs ∷ bss) zero = refl
without-packed m (bs ∷ bss) (suc i) = ap (λ (xs : List Bids). map (packed_bid m) bs ∷ xs) (without-packed m bss i)

module _ (m : Some) (bss : List Bids) (free : Some) (h : Held m bss) (i : ℕ) where
  taken-packed : (taken (all_packed m bss) (packed m free) i).price ≡ (taken bss free i).price
  taken-packed =
      ap₂ (λ (bs : Bids) (cs : List ℕ). (given bs (get_or cs i 0)).price) (get_or-map (map (packed_bid m)) bss i []) (choice-packed m bss free h)
      ∙ price-packed m (get_or bss i []) (get_or (choice bss free) i 0)

  others-packed : best (without (all_packed m bss) i) (packed m free) ≡ best (without bss i) free
  others-packed =
      ap (λ (xs : List Bids). best xs (packed m free)) (without-packed m bss i)
      ∙ best-packed m (without bss i) free (held_fewer m bss (without bss i) (fewer_without bss i) h)

  pub pays-packed : pays (all_packed m bss) (packed m free) i ≡ pays bss free i
  pays-packed = cc (taken-packed, others-packed, best-packed m bss free h)

pub packed_pieces : PackedPieces
unfolding PackedPieces Held
packed_pieces = λ m bss free h. (best-packed m bss free h, choice-packed m bss free h, pays-packed m bss free h)

one-piece-more : (m : Some) → how_many (true ∷ m) ≡ suc (how_many m)
one-piece-more m = sum_by-cons (λ (x : Bool). cond x 1 0) true m ∙ one-add (how_many m)

pub packed_all : (m s : Some) → within m s ≡ true → packed m s ≡ all (how_many m)
unfolding packed within all
packed_all [] s w = refl
packed_all (true ∷ m) [] w = absurd (false≢true w)
packed_all (true ∷ m) (x ∷ s) w =
    let (here, later) = and_parts x (within m s) w in
    ap₂ (λ (t : Bool) (u : Some). t ∷ u) here (packed_all m s later) ∙ ap all (sym (one-piece-more m))
packed_all (false ∷ m) [] w = packed_all m [] w
packed_all (false ∷ m) (x ∷ s) w = packed_all m s w

pub packed_shared : (m s : Some) → packed m (shared s m) ≡ packed m s
unfolding packed less
packed_shared [] s = refl
packed_shared (x ∷ m) [] = refl
packed_shared (true ∷ m) (true ∷ s) = ap (λ (t : Some). true ∷ t) (packed_shared m s)
packed_shared (true ∷ m) (false ∷ s) = ap (λ (t : Some). false ∷ t) (packed_shared m s)
packed_shared (false ∷ m) (y ∷ s) = packed_shared m s

pub packed_sets : PackedSets
unfolding PackedSets
packed_sets = λ m s. (packed_all m s, packed_shared m s)
