-- Lots that are found: the order in which they close, the first of some, and what the words tell of the list of lots. Assumes nothing.
use Rattle.std.proofs.lemmas.Grind.{common_steps}
use Rattle.std.proofs.Common.{◌≡◌, ℕ, ◌<◌, Bool, true, false, cond, leb, zero, suc, All, Contains, count_by, MatchOption, ◌∷◌, filter, List, [], map, length, get_or, Some, None, Option, sym, refl, ap, ◌∙◌, subst, ⊎_elim, arith}
use Rattle.std.specs.List.{range_with_len}
use Rattle.std.specs.Iterator.Runs.{Run, AnyItem}
use Rattle.std.specs.Option.{option_map, IsSomeAnd}
use Rattle.std.proofs.lemmas.List.Elements.{All-contains, All-filter, All-from_get_or, Contains-get_or, filter_passes}
use Rattle.std.proofs.lemmas.List.Sums.{length-filter, sum-map}
use Rattle.std.proofs.lemmas.Simd.{map-map}
use Rattle.std.proofs.lemmas.Bool.{cases_Bool}
use Rattle.auction.specs.House.{Lot}
use Rattle.bundles.proofs.Picks.{pick_yes, pick_no}
use Rattle.ledger.specs.declared.finding.Closing.{Closing}
use Rattle.ledger.specs.declared.standing.Header.{Header}
use Rattle.ledger.specs.Houses.{house_in, is_house, limits_in, lot_in, lot_words, Stands}
use Rattle.ledger.specs.Finding.{lots_in, lot_of_list, how_many_closed, before, is_past, closing, FindsFirst, NextClosing}

-- what stands in a list and passes stands in what is filtered
Contains-filter : {X : Type 0} (p : X → Bool) (xs : List X) (x : X) → Contains xs x → p x ≡ true → Contains (filter p xs) x
Contains-filter p [] x there t = absurd (omega (arith, there.1))
Contains-filter p (y ∷ ys) x (zero, h, e) t = rw (e, t) (zero, omega arith, refl)
Contains-filter p (y ∷ ys) x (suc k, h, e) t = go (p y) (Contains-filter p ys x (k, omega arith, e) t)
  where
    go : (b : Bool) → Contains (filter p ys) x → Contains (cond b (y ∷ filter p ys) (filter p ys)) x
    go true (j, hj, ej) = (suc j, omega arith, ej)
    go false there = there

-- an item of a run is in the list of its items
in_items : {S A : Type 0} {steps : S → Option A → S → Type 0} (p : Run steps) (m : A) → AnyItem p (λ x. x ≡ m) → Contains p.items m
in_items p m (k, h, there) = (k, omega (arith, p.long), go (p.at k) (p.reads k m h) there)
  where
    go : (o : Option _) → option_map (λ y. y) o ≡ Some (get_or p.items k m) → IsSomeAnd o (λ x. x ≡ m) → get_or p.items k m ≡ m
    go None e there = absurd there
    go (Some x) e there = cc

-- the least of the lots that are past is the first
pub first_found : {S : Type 0} {steps : S → Option Closing → S → Type 0} (p : Run steps) (lots : List Closing) (n : ℕ) (ends : ℕ → ℕ) (from r : Option Closing)
    → p.items ≡ filter (is_past from) lots → length lots ≡ n → ((k : ℕ) → k < n → get_or lots k (closing ends 0) ≡ closing ends k)
    → MatchOption r (p.len ≡ 0) (λ m. AnyItem p (λ x. x ≡ m)) → MatchOption r (length p.items ≡ 0) (λ m. All (λ x. before x m ≡ false) p.items) → FindsFirst n ends from r
first_found p lots n ends from r is many each any least = go r any least
  where
    kept : (k : ℕ) → k < n → is_past from (closing ends k) ≡ true → Contains p.items (closing ends k)
    kept k h past =
        let there : Contains lots (closing ends k) = subst (Contains lots) (each k h) (Contains-get_or lots k (closing ends 0) (omega arith)) in
        subst (λ xs. Contains xs (closing ends k)) (sym is) (Contains-filter (is_past from) lots (closing ends k) there past)

    go : (r : Option Closing) → MatchOption r (p.len ≡ 0) (λ m. AnyItem p (λ x. x ≡ m)) → MatchOption r (length p.items ≡ 0) (λ m. All (λ x. before x m ≡ false) p.items) → FindsFirst n ends from r
    go None any least = λ k h. ⊎_elim (λ t. let there = kept k h t in absurd (omega (arith, there.1))) (λ e. e) (cases_Bool (is_past from (closing ends k)))
    go (Some c) any least =
        let Is : Closing → Type 0 = λ x. (x.number < n) × (x.until ≡ ends x.number) in
        let all : All Is lots = All-from_get_or Is lots (closing ends 0) (λ k h. subst Is (sym (each k (omega arith))) (omega arith, refl)) in
        let here : Contains (filter (is_past from) lots) c = subst (λ xs. Contains xs c) is (in_items p c any) in
        let lot = All-contains Is _ c (All-filter (is_past from) Is lots all) here in
        record {
          lot = lot.0;
          tick = lot.1;
          past = All-contains (λ x. is_past from x ≡ true) _ c (filter_passes (is_past from) lots) here;
          least = λ k h past. All-contains (λ x. before x c ≡ false) _ _ least (kept k h past);
        }

-- the first is the same where the ticks are
pub same_finds : (n p : ℕ) (ends stops : ℕ → ℕ) (from r : Option Closing) → p ≡ n → ((k : ℕ) → k < n → stops k ≡ ends k) → FindsFirst n ends from r → FindsFirst p stops from r
same_finds n p ends stops from None e same none =
    λ k h. ap (λ (t : ℕ). is_past from (record { until = t; number = k })) (same k (omega arith)) ∙ none k (omega arith)
same_finds n p ends stops from (Some c) e same first =
    record {
      lot = omega (arith, first.lot);
      tick = first.tick ∙ sym (same c.number first.lot);
      past = first.past;
      least = λ k h past.
          ap (λ (t : ℕ). before (record { until = t; number = k }) c) (same k (omega arith))
          ∙ first.least k (omega arith) (ap (λ (t : ℕ). is_past from (record { until = t; number = k })) (sym (same k (omega arith))) ∙ past);
    }

-- words that are no house have no lots
pub no_lots : (m : List ℕ) → is_house m ≡ false → lots_in m ≡ []
unfolding lots_in
no_lots m e = pick_no _ _ e

-- the lots of words that are a house, as its header tells of them
module _ (m : List ℕ) (h : Header) (s : Stands m h) where
  pub lots_stand : lots_in m ≡ (house_in m).lots
  unfolding lots_in
  lots_stand = pick_yes _ _ s.house

  pub count_stands : length (lots_in m) ≡ h.count
  count_stands = ap length lots_stand ∙ s.many

  pub until_stands : (k : ℕ) → k < h.count → (lot_of_list (lots_in m) k).until ≡ (lot_words m k).until
  until_stands k less = ap (λ (os : List Lot). (lot_of_list os k).until) lots_stand ∙ s.until k less

  pub next_stands : (from r : Option Closing) → FindsFirst h.count (λ k. (lot_words m k).until) from r → NextClosing (lots_in m) from r
  next_stands from r found = grind (arith, common_steps, same_finds, count_stands, until_stands)

-- how many are closed, counted by number
count_by-map : {X : Type 0} (p : X → Bool) (f : ℕ → X) (xs : List ℕ) → count_by p (map f xs) ≡ count_by (λ k. p (f k)) xs
count_by-map p f xs = grind (arith, common_steps, sum-map, map-map)

pub closed_counted : (m : List ℕ) (t n : ℕ) → length (filter (λ k. leb (lot_words m k).until t) (range_with_len 0 n)) ≡ how_many_closed t (map (lot_in (limits_in m) m) (range_with_len 0 n))
closed_counted m t n = grind (arith, common_steps, length-filter, count_by-map)
