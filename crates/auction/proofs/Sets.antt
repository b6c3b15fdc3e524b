-- Sets of pieces: what `within` and `less` say of each piece, and the laws of both that follow piece by piece.
-- Assumes nothing.
use Rattle.std.proofs.Common.{◌≡◌, ℕ, zero, suc, Bool, true, false, not, ◌&&◌, ◌||◌, [], ◌∷◌, length, get_or, sym, refl, ap, ◌∙◌}
use Rattle.std.proofs.lemmas.Bool.{false≢true, both_ways, and_parts, and_from, or_parts, or_from, not-true, not_from_false}
use Rattle.std.proofs.lemmas.List.{ext_get_or}
use Rattle.auction.specs.Bids.{Some, within, less}
use Rattle.auction.specs.Laws.{touches}

-- is the piece i in the set
abbrev pub has : Some → ℕ → Bool
has s i = get_or s i false

pub and_true : (x : Bool) → x ≡ (x && true)
and_true true = refl
and_true false = refl

-- two tests that pass together are one test
pub same_test : (x y : Bool) → (x ≡ true → y ≡ true) → (y ≡ true → x ≡ true) → x ≡ y
same_test true y f g = sym (f refl)
same_test false true f g = g refl
same_test false false f g = refl

pub not_so : (x : Bool) → (x ≡ true → ⊥) → x ≡ false
not_so true f = absurd (f refl)
not_so false f = refl

pub has-less : (s x : Some) (i : ℕ) → has (less s x) i ≡ (has s i && not (has x i))
unfolding less
has-less [] x i = refl
has-less (a ∷ s) [] i = and_true (has (a ∷ s) i)
has-less (a ∷ s) (b ∷ x) zero = refl
has-less (a ∷ s) (b ∷ x) (suc i) = has-less s x i

pub in_less : (s x : Some) (i : ℕ) → has (less s x) i ≡ true → (has s i ≡ true) × (has x i ≡ false)
in_less s x i h =
    let p = and_parts (has s i) (not (has x i)) (sym (has-less s x i) ∙ h) in
    (p.0, not-true (has x i) p.1)

pub less_in : (s x : Some) (i : ℕ) → has s i ≡ true → has x i ≡ false → has (less s x) i ≡ true
less_in s x i h k = has-less s x i ∙ and_from (has s i) (not (has x i)) h (not_from_false (has x i) k)

pub length-less : (s x : Some) → length (less s x) ≡ length s
unfolding less
length-less [] x = refl
length-less (a ∷ s) [] = refl
length-less (a ∷ s) (b ∷ x) = ap suc (length-less s x)

pub within_has : (a s : Some) → within a s ≡ true → (i : ℕ) → has a i ≡ true → has s i ≡ true
unfolding within
within_has [] s w i h = absurd (false≢true h)
within_has (true ∷ a) [] w i h = absurd (false≢true w)
within_has (false ∷ a) [] w zero h = absurd (false≢true h)
within_has (false ∷ a) [] w (suc i) h = within_has a [] w i h
within_has (true ∷ a) (y ∷ s) w zero h = (and_parts y (within a s) w).0
within_has (false ∷ a) (y ∷ s) w zero h = absurd (false≢true h)
within_has (true ∷ a) (y ∷ s) w (suc i) h = within_has a s (and_parts y (within a s) w).1 i h
within_has (false ∷ a) (y ∷ s) w (suc i) h = within_has a s w i h

pub has_within : (a s : Some) → ((i : ℕ) → has a i ≡ true → has s i ≡ true) → within a s ≡ true
unfolding within
has_within [] s f = refl
has_within (true ∷ a) [] f = absurd (false≢true (f 0 refl))
has_within (false ∷ a) [] f = has_within a [] (λ i. f (suc i))
has_within (true ∷ a) (y ∷ s) f = and_from y (within a s) (f 0 refl) (has_within a s (λ i. f (suc i)))
has_within (false ∷ a) (y ∷ s) f = has_within a s (λ i. f (suc i))

-- what is outside the larger set is outside the smaller
pub outside : (a s : Some) → within a s ≡ true → (i : ℕ) → has s i ≡ false → has a i ≡ false
outside a s w i k = not_so (has a i) (λ h. both_ways (has s i) k (within_has a s w i h))

-- sets over the same pieces that have the same pieces
pub same_set : (a b : Some) → length a ≡ length b → ((i : ℕ) → has a i ≡ has b i) → a ≡ b
same_set a b e f = ext_get_or false a b e (λ i _. f i)

pub within_refl : (s : Some) → within s s ≡ true
within_refl s = has_within s s (λ i h. h)

pub within_trans : (a b c : Some) → within a b ≡ true → within b c ≡ true → within a c ≡ true
within_trans a b c v w = has_within a c (λ i h. within_has b c w i (within_has a b v i h))

pub less-nothing : (s : Some) → less s [] ≡ s
unfolding less
less-nothing [] = refl
less-nothing (a ∷ s) = refl

pub less-within : (s x : Some) → within (less s x) s ≡ true
less-within s x = has_within (less s x) s (λ i h. (in_less s x i h).0)

pub less_mono : (s t x : Some) → within s t ≡ true → within (less s x) (less t x) ≡ true
less_mono s t x w =
    has_within (less s x) (less t x) (λ i h. less_in t x i (within_has s t w i (in_less s x i h).0) (in_less s x i h).1)

pub less_anti : (s g u : Some) → within g u ≡ true → within (less s u) (less s g) ≡ true
less_anti s g u w =
    has_within (less s u) (less s g) (λ i h. less_in s g i (in_less s u i h).0 (outside g u w i (in_less s u i h).1))

and_swap : (x y z : Bool) → ((x && y) && z) ≡ ((x && z) && y)
and_swap true true z = and_true z
and_swap true false true = refl
and_swap true false false = refl
and_swap false y z = refl

pub less_comm : (s x y : Some) → less (less s x) y ≡ less (less s y) x
less_comm s x y =
    same_set (less (less s x) y) (less (less s y) x)
    (length-less (less s x) y ∙ length-less s x ∙ sym (length-less (less s y) x ∙ length-less s y))
    (λ i. simp has-less (and_swap (has s i) (not (has x i)) (not (has y i))))

-- with room for both, either of two sets can be taken first
pub within_swap : (a b s : Some) → within a s ≡ true → within b (less s a) ≡ true → within a (less s b) ≡ true
within_swap a b s v w =
    has_within a (less s b) λ i h. less_in s b i (within_has a s v i h)
    (not_so (has b i) (λ k. both_ways (has a i) (in_less s a i (within_has b (less s a) w i k)).1 h))

pub less-less : (f g s : Some) → within g s ≡ true → less (less f g) (less s g) ≡ less f s
less-less f g s w =
    same_set (less (less f g) (less s g)) (less f s) (length-less (less f g) (less s g) ∙ length-less f g ∙ sym (length-less f s))
    (λ i. simp has-less (go i (has f i) (has g i) (has s i) (within_has g s w i)))
  where
    go : (i : ℕ) (x y z : Bool) → (y ≡ true → z ≡ true) → ((x && not y) && not (z && not y)) ≡ (x && not z)
    go i true true z h = sym (ap not (h refl))
    go i true false true h = refl
    go i true false false h = refl
    go i false y z h = refl

-- what is left of a set is what is left when all else is taken
pub less_back : (f g s : Some) → less f (less f (less (less f g) s)) ≡ less (less f g) s
less_back f g s =
    same_set (less f (less f (less (less f g) s))) (less (less f g) s)
    (length-less f (less f (less (less f g) s)) ∙ sym (length-less (less f g) s ∙ length-less f g))
    (λ i. simp has-less (go (has f i) (has g i) (has s i)))
  where
    go : (x y z : Bool) → (x && not (x && not ((x && not y) && not z))) ≡ ((x && not y) && not z)
    go true true z = refl
    go true false true = refl
    go true false false = refl
    go false y z = refl

pub within_back : (s f : Some) → within s f ≡ true → within s (less f (less f s)) ≡ true
within_back s f w =
    has_within s (less f (less f s)) λ i h.
    less_in f (less f s) i (within_has s f w i h) (not_so (has (less f s) i) (λ k. both_ways (has s i) (in_less f s i k).1 h))

-- sets that share no piece
pub touches_comm : (a b : Some) → touches a b ≡ touches b a
unfolding touches
touches_comm [] [] = refl
touches_comm [] (y ∷ b) = refl
touches_comm (x ∷ a) [] = refl
touches_comm (x ∷ a) (y ∷ b) = go x y (touches_comm a b)
  where
    go : (x y : Bool) → touches a b ≡ touches b a → ((x && y) || touches a b) ≡ ((y && x) || touches b a)
    go true true e = refl
    go true false e = e
    go false true e = e
    go false false e = e

pub touches-nothing : (a : Some) → touches a [] ≡ false
unfolding touches
touches-nothing [] = refl
touches-nothing (x ∷ a) = refl

and_right_false : (x y : Bool) → x ≡ true → (x && y) ≡ false → y ≡ false
and_right_false true y h e = e
and_right_false false y h e = absurd (false≢true h)

touches-has : (a b : Some) → touches a b ≡ false → (i : ℕ) → has a i ≡ true → has b i ≡ false
unfolding touches
touches-has [] b t i h = absurd (false≢true h)
touches-has (x ∷ a) [] t i h = refl
touches-has (x ∷ a) (y ∷ b) t zero h = and_right_false x y h (or_parts (x && y) (touches a b) t).0
touches-has (x ∷ a) (y ∷ b) t (suc i) h = touches-has a b (or_parts (x && y) (touches a b) t).1 i h

has-touches : (a b : Some) → ((i : ℕ) → has a i ≡ true → has b i ≡ false) → touches a b ≡ false
unfolding touches
has-touches [] b f = refl
has-touches (x ∷ a) [] f = refl
has-touches (true ∷ a) (y ∷ b) f = or_from y (touches a b) (f 0 refl) (has-touches a b (λ i. f (suc i)))
has-touches (false ∷ a) (y ∷ b) f = has-touches a b (λ i. f (suc i))

pub touches-within : (a p b : Some) → within a p ≡ true → touches b p ≡ false → touches a b ≡ false
touches-within a p b w t =
    has-touches a b λ i h. not_so (has b i) (λ k. both_ways (has p i) (touches-has b p t i k) (within_has a p w i h))

-- a set does not touch what is outside it
pub touches-less : (a s p : Some) → within a p ≡ true → touches a (less s p) ≡ false
touches-less a s p w =
    has-touches a (less s p) λ i h. not_so (has (less s p) i) (λ k. both_ways (has p i) (in_less s p i k).1 (within_has a p w i h))

-- pieces that a set does not touch can be taken away from around it
pub within-less : (a b s : Some) → touches a b ≡ false → within a (less s b) ≡ within a s
within-less a b s t =
    same_test (within a (less s b)) (within a s)
    (λ w. within_trans a (less s b) s w (less-within s b))
    (λ w. has_within a (less s b) (λ i h. less_in s b i (within_has a s w i h) (touches-has a b t i h)))
