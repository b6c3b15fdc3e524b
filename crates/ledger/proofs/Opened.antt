-- What opening leaves: the words of a new house, which are sound and hold nothing. Assumes nothing.
use Rattle.std.proofs.lemmas.Grind.{common_steps}
use Rattle.std.proofs.Common.{◌≡◌, ℕ, zero, suc, ◌+◌, ◌-◌, ◌<◌, ◌≤◌, Bool, true, false, leb, Some, None, Option, List, [], ◌∷◌, ◌++◌, length, get_or, take, drop, set, replicate, sym, refl, ap, ◌∙◌, subst, arith}
use Rattle.std.proofs.lemmas.List.{append-nil, length-take-le, length-replicate, replicate-append-replicate, get_or-append_right, get_or-drop}
use Rattle.std.proofs.lemmas.Bool.{le-leb}
use Rattle.auction.specs.Bids.{pick}
use Rattle.auction.specs.House.{new_house}
use Rattle.bundles.proofs.Picks.{pick_yes}
use Rattle.ledger.specs.declared.layout.Limits.{Limits}
use Rattle.ledger.specs.Layout.{Good, good, house_words, needed}
use Rattle.ledger.specs.Houses.{house_in, Sound}
use Rattle.ledger.specs.Laws.{NewHouse}
use Rattle.ledger.specs.Opening.{new_words, opened, after_opening}
use Rattle.ledger.proofs.Parts.{zeros_below}
use Rattle.ledger.proofs.Sounds.{sound_by}

zeros : (n : ℕ) → 8 ≤ n → replicate {A = ℕ} n 0 ≡ 0 ∷ 0 ∷ 0 ∷ 0 ∷ 0 ∷ 0 ∷ 0 ∷ 0 ∷ replicate (n - 8) 0
zeros n h = let all : 8 + (n - 8) ≡ n = omega arith in ap (λ k. replicate {A = ℕ} k 0) (sym all) ∙ sym (replicate-append-replicate 8 (n - 8) 0)

-- the front cleared, and the limits written
started : (l : Limits) (m clear : List ℕ) (n : ℕ) → n ≡ house_words l → n ≤ length m → clear ≡ replicate (length (take n m)) 0 → set (set (set (clear ++ drop n m) 0 l.lots) 1 l.bidders) 2 l.each ≡ opened l m
unfolding opened
started l m clear n e room is = grind (arith, common_steps, length-take-le, zeros)

pub opened_where_needed : (l : Limits) (m clear : List ℕ) (n : ℕ) → needed l ≡ Some n → n ≤ length m → clear ≡ replicate (length (take n m)) 0
    → set (set (set (clear ++ drop n m) 0 l.lots) 1 l.bidders) 2 l.each ≡ after_opening l m
opened_where_needed l m clear n asked room is = go (good l) asked
  where
    go : (b : Bool) → pick {A = Option ℕ} b (Some (house_words l)) None ≡ Some n → set (set (set (clear ++ drop n m) 0 l.lots) 1 l.bidders) 2 l.each ≡ pick b (pick (leb (house_words l) (length m)) (opened l m) m) m
    go true e = let words : n ≡ house_words l = cc in started l m clear n words room is ∙ sym (pick_yes _ m (le-leb (house_words l) (length m) (omega arith)))
    go false e = cc

-- a new house has words below 2^32 if what lies behind has
below_opened : (l : Limits) (m : List ℕ) → Good l → ((i : ℕ) → get_or m i 0 < 4294967296) → (i : ℕ) → get_or (opened l m) i 0 < 4294967296
unfolding opened
below_opened l m g below zero = omega (arith, g.0)
below_opened l m g below (suc zero) = omega (arith, g.2)
below_opened l m g below (suc (suc zero)) = omega (arith, g.3)
below_opened l m g below (suc (suc (suc i))) =
    zeros_below (suc (suc (suc (suc (suc (house_words l - 8)))))) (drop (house_words l) m) (λ j. subst (λ x. x < 4294967296) (sym (get_or-drop (house_words l) m j 0)) (below (house_words l + j))) i

pub length_new : (l : Limits) → length (new_words l) ≡ house_words l
length_new l = omega (arith, length-replicate {A = ℕ} (house_words l - 8) 0)

-- behind the header it is empty
empty : (l : Limits) (m : List ℕ) (i : ℕ) → 8 ≤ i → i < house_words l → get_or (opened l m) i 0 ≡ 0
unfolding opened
empty l m i h h' = grind (arith, common_steps)

length-opened : (l : Limits) (m : List ℕ) → house_words l ≤ length m → length (opened l m) ≡ length m
unfolding opened
length-opened l m room = grind (arith, common_steps)

behind-opened : (l : Limits) (m : List ℕ) (i : ℕ) → house_words l ≤ i → get_or (opened l m) i 0 ≡ get_or m i 0
unfolding opened
behind-opened l m i h =
    let there : house_words l + (i - house_words l) ≡ i = omega arith in
    get_or-append_right (new_words l) (drop (house_words l) m) (house_words l) i 0 (length_new l) h ∙ get_or-drop (house_words l) m (i - house_words l) 0 ∙ ap (λ j. get_or m j 0) there

pub opened_sound : (l : Limits) (m : List ℕ) → Good l → house_words l ≤ length m → ((i : ℕ) → get_or m i 0 < 4294967296) → Sound (opened l m)
unfolding opened
opened_sound l m g room below = grind (arith, common_steps, sound_by, length-opened, below_opened, empty)

pub new_house-opened : (l : Limits) (m : List ℕ) → Good l → house_words l ≤ length m → ((i : ℕ) → get_or m i 0 < 4294967296) → NewHouse l m (opened l m)
unfolding opened house_in
new_house-opened l m g room below = grind (arith, common_steps, opened_sound, length-opened, behind-opened)

-- where the memory has just as many words as the house asks for
pub opened_exact : (l : Limits) (m : List ℕ) → length m ≡ house_words l → opened l m ≡ new_words l
unfolding opened
opened_exact l m e = grind (arith, common_steps)

pub new_sound : (l : Limits) → Good l → Sound (new_words l)
new_sound l g =
    let m : List ℕ = replicate (house_words l) 0 in
    let long : length m ≡ house_words l = length-replicate (house_words l) 0 in
    let below : (i : ℕ) → get_or m i 0 < 4294967296 = λ i. subst (λ xs. get_or xs i 0 < 4294967296) (append-nil m) (zeros_below (house_words l) [] (λ j. omega arith) i) in
    subst Sound (opened_exact l m long) (opened_sound l m g (omega arith) below)

pub new_is_new : (l : Limits) → house_in (new_words l) ≡ new_house
unfolding house_in
new_is_new l = refl
