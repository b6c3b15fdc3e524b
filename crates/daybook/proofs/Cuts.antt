-- A row of bytes is cut into records, one after the other. Assumes nothing.
use Rattle.std.proofs.Common.{◌≡◌, ℕ, zero, suc, ◌+◌, ◌*◌, ◌<◌, ◌≤◌, min, ◌⊎◌, List, [], ◌∷◌, length, get_or, take, drop, sym, refl, ap, ◌∙◌, ap₂, inl, inr, arith}
use Rattle.std.proofs.lemmas.List.{take_all, drop_all}
use Rattle.std.proofs.lemmas.Bool.{cases_lt}
use Rattle.daybook.specs.Records.{records_behind, records}

-- what lies behind so many bytes are the records of the rest
behind-drop : (n : ℕ) (bs : List ℕ) → records_behind n bs ≡ records (drop n bs)
unfolding records_behind
behind-drop zero bs = refl
behind-drop (suc n) [] = refl
behind-drop (suc n) (b ∷ bs) = behind-drop n bs

-- less than a length is no record
pub too_short : (bs : List ℕ) → length bs < 2 → records bs ≡ []
unfolding records_behind
too_short [] h = refl
too_short (a ∷ []) h = refl
too_short (a ∷ b ∷ bs) h = absurd (omega arith)

-- so many bytes, or those that are there
within_min : (n : ℕ) (xs : List ℕ) → (take (min n (length xs)) xs ≡ take n xs) × (drop (min n (length xs)) xs ≡ drop n xs)
within_min n xs = go (cases_lt n (length xs))
  where
    go : (n < length xs) ⊎ (length xs ≤ n) → (take (min n (length xs)) xs ≡ take n xs) × (drop (min n (length xs)) xs ≡ drop n xs)
    go (inl h) = let all : min n (length xs) ≡ n = omega arith in (ap (λ k. take k xs) all, ap (λ k. drop k xs) all)
    go (inr h) =
        let few : min n (length xs) ≡ length xs = omega arith in (
          ap (λ k. take k xs) few ∙ take_all (length xs) xs (omega arith) ∙ sym (take_all n xs h),
          ap (λ k. drop k xs) few ∙ drop_all (length xs) xs (omega arith) ∙ sym (drop_all n xs h),
        )

-- a length and the bytes behind it, as many as there are, and the other records
pub one_more : (bs behind front back : List ℕ) (n k : ℕ) → 2 ≤ length bs → n ≡ get_or bs 0 0 + 256 * get_or bs 1 0 → behind ≡ drop 2 bs → k ≡ min n (length behind) → front ≡ take k behind → back ≡ drop k behind →
    records bs ≡ front ∷ records back
unfolding records_behind
one_more [] behind front back n k h e is few first rest = absurd (omega arith)
one_more (a ∷ []) behind front back n k h e is few first rest = absurd (omega arith)
one_more (a ∷ b ∷ bs) behind front back n k h e is few first rest =
    let cut = within_min n bs in
    let size : k ≡ min n (length bs) = few ∙ ap (λ (xs : List ℕ). min n (length xs)) is in
    let one : take (a + 256 * b) bs ≡ front = ap (λ i. take i bs) (sym e) ∙ sym (first ∙ ap₂ take size is ∙ cut.0) in
    let more : records_behind (a + 256 * b) bs ≡ records back = ap (λ i. records_behind i bs) (sym e) ∙ behind-drop n bs ∙ ap records (sym (rest ∙ ap₂ drop size is ∙ cut.1)) in
    ap₂ (λ (r : List ℕ) (rs : List (List ℕ)). r ∷ rs) one more
