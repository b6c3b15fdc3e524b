-- Going from bidder to bidder, each choosing from what those before it leave. Assumes nothing.
use Rattle.std.proofs.Common.{◌≡◌, ℕ, zero, suc, ◌+◌, ◌-◌, ◌/◌, ◌%◌, ◌^◌, ◌<◌, ◌≤◌, ◌⊎◌, List, [], ◌∷◌, ◌++◌, length, get_or, drop, set, replicate, None, Option, sym, refl, ap, ◌∙◌, subst, ap₂, inl, inr, add-zero, pow-suc, length-append, arith}
use Rattle.std.proofs.lemmas.List.{drop_more, drop-drop, get_or-drop, get_or_past, get_or-replicate, length-replicate, get_or_append_left, get_or-append_right, length-drop, get_or-set_same, get_or-set_other, length-set}
use Rattle.std.proofs.lemmas.Bool.{cases_eq, cases_lt}
use Rattle.auction.specs.Bids.{Some, Bids, all, less, choice, given}
use Rattle.bundles.specs.Masks.{bits}
use Rattle.solver.specs.Choosing.{IsTaken, Allocated, pieces_of}
use Rattle.solver.specs.declared.outcome.Taken.{Taken}

-- the set of all pieces is the largest number
pub bits-all : (n m : ℕ) → m + 1 ≡ 2 ^ n → bits n m ≡ all n
unfolding bits all
bits-all zero m e = refl
bits-all (suc n) m e =
    let p = pow-suc 2 n in
    let odd : m % 2 ≡ 1 = omega arith in
    ap₂ (λ x (xs : Some). x ∷ xs) (rw odd refl) (bits-all n (m / 2) (omega arith))

-- so far: what is left to choose is what the bidders from this one on choose of what is free
pub record Walked (bss : List Bids) (whole : Some) (n i free : ℕ) (ts : List (Option Taken)) : Type 0 where
  pub here : drop i (choice bss whole) ≡ choice (drop i bss) (bits n free)
  pub small : free < 2 ^ n
  pub long : length ts ≡ length bss
  pub done : (j : ℕ) → j < i → IsTaken (get_or bss j []) (get_or (choice bss whole) j 0) (get_or ts j None)

choice_from : (bss : List Bids) (i : ℕ) (free : Some) → i < length bss →
    choice (drop i bss) free ≡ get_or (choice (drop i bss) free) 0 0 ∷ choice (drop (i + 1) bss) (less free (given (get_or bss i []) (get_or (choice (drop i bss) free) 0 0)).on)
unfolding choice
choice_from bss i free lt = rw (drop_more bss i [] lt) refl

module _ (bss : List Bids) (whole : Some) (n i free : ℕ) (ts : List (Option Taken)) (w : Walked bss whole n i free ts) (lt : i < length bss) where
  c : ℕ
  c = get_or (choice (drop i bss) (bits n free)) 0 0

  this_one : get_or (choice bss whole) i 0 ≡ c
  unfolding c
  this_one =
      ap (λ (j : ℕ). get_or (choice bss whole) j 0) (sym (add-zero i)) ∙ sym (get_or-drop i (choice bss whole) 0 0) ∙ ap (λ (xs : List ℕ). get_or xs 0 0) w.here

  pub walked_more : (got : Option Taken) (left : ℕ) → IsTaken (get_or bss i []) (get_or (choice (drop i bss) (bits n free)) 0 0) got → bits n left ≡ less (bits n free) (bits 16 (pieces_of got)) → left ≤ free →
      Walked bss whole n (i + 1) left (set ts i got)
  unfolding c
  walked_more got left took left_is small =
      record { here = here; small = omega (arith, w.small); long = length-set ts i got ∙ w.long; done = λ j h. done j h (cases_eq j i) }
    where
      here : drop (i + 1) (choice bss whole) ≡ choice (drop (i + 1) bss) (bits n left)
      here =
          sym (drop-drop 1 i (choice bss whole))
          ∙ ap (drop 1) (w.here ∙ choice_from bss i (bits n free) lt)
          ∙ ap (choice (drop (i + 1) bss)) (sym (took.left n free) ∙ sym left_is)

      done : (j : ℕ) → j < i + 1 → (j ≡ i) ⊎ (j ≡ i → ⊥) → IsTaken (get_or bss j []) (get_or (choice bss whole) j 0) (get_or (set ts i got) j None)
      done j h (inl e) =
          let P : ℕ → Type 0 = λ k. IsTaken (get_or bss k []) (get_or (choice bss whole) k 0) (get_or (set ts i got) k None) in
          let Q : ℕ → Type 0 = λ x. IsTaken (get_or bss i []) x (get_or (set ts i got) i None) in
          let R : Option Taken → Type 0 = λ t. IsTaken (get_or bss i []) c t in
          subst P (sym e) (subst Q (sym this_one) (subst R (sym (get_or-set_same ts i got None (omega (arith, w.long)))) took))
      done j h (inr ne) =
          let R : Option Taken → Type 0 = λ t. IsTaken (get_or bss j []) (get_or (choice bss whole) j 0) t in
          subst R (sym (get_or-set_other ts i j got None ne)) (w.done j (omega arith))

-- what the end of the list has is what it was made of
pub all_alike : {A : Type 0} (m i : ℕ) (x : A) → get_or (replicate m x) i x ≡ x
all_alike m i x = at (cases_lt i m)
  where
    at : (i < m) ⊎ (m ≤ i) → get_or (replicate m x) i x ≡ x
    at (inl lt) = get_or-replicate m i x x lt
    at (inr le) = get_or_past (replicate m x) i x (omega (arith, length-replicate m x))

pub walked_all : (bss : List Bids) (whole : Some) (n i free : ℕ) (ts nones : List (Option Taken)) → Walked bss whole n i free ts → i ≡ length bss → length bss ≤ 32 → nones ≡ replicate 32 None → Allocated bss whole (ts ++ drop (length bss) nones)
walked_all bss whole n i free ts nones w e few same =
    record {
      long = omega (arith, length-append ts (drop (length bss) nones), length-drop (length bss) nones, ap length same, w.long);
      each = λ j h. rw (get_or_append_left ts (drop (length bss) nones) None j (omega (arith, w.long))) (w.done j (omega arith));
      none = λ j h.
          get_or-append_right ts (drop (length bss) nones) (length bss) j None w.long h
          ∙ get_or-drop (length bss) nones (j - length bss) None
          ∙ ap (λ (xs : List (Option Taken)). get_or xs (length bss + (j - length bss)) None) same
          ∙ all_alike 32 (length bss + (j - length bss)) None;
    }
