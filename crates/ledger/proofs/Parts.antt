-- Lists with a part written over, and lists made by counting with one element changed. Assumes nothing.
use Rattle.std.proofs.lemmas.Grind.{common_steps}
use Rattle.std.proofs.Common.{◌≡◌, ℕ, zero, suc, ◌+◌, ◌-◌, ◌<◌, ◌≤◌, ◌≢◌, List, ◌++◌, map, length, get_or, take, drop, set, replicate, sym, refl, ap, ◌∙◌, ap₂, ⊎_elim, zero-add, arith}
use Rattle.std.specs.List.{range_with_len}
use Rattle.std.proofs.lemmas.List.FromFn.{length-map-range_with_len, get_or-map-range_with_len, fill_by_all}
use Rattle.std.proofs.lemmas.List.{same_lists, length-take, length-take-le, length-drop, length-set, take_at, drop_at, drop-drop, get_or-take, get_or-drop, get_or-set_same, get_or-set_other, get_or_default}
use Rattle.std.proofs.lemmas.Bool.{cases_eq}

-- two lists with the same words in a part have the same part
pub same_part : (xs ys : List ℕ) (a n : ℕ) → length xs ≡ length ys → ((i : ℕ) → a ≤ i → i < a + n → get_or xs i 0 ≡ get_or ys i 0) → take n (drop a xs) ≡ take n (drop a ys)
same_part xs ys a n e same =
    let lx = length-take n (drop a xs) in
    let ly = length-take n (drop a ys) in
    let dx = length-drop a xs in
    let dy = length-drop a ys in
    same_lists _ _ (omega arith)
    (λ i d h.
    let in-x : a + i < length xs = omega arith in
    let in-y : a + i < length ys = omega arith in
    get_or-take n (drop a xs) i d (omega arith) ∙ get_or-drop a xs i d ∙ get_or_default xs (a + i) d 0 in-x ∙ same (a + i) (omega arith) (omega arith)
    ∙ get_or_default ys (a + i) 0 d in-y ∙ sym (get_or-drop a ys i d) ∙ sym (get_or-take n (drop a ys) i d (omega arith)))

-- xs with the n elements from a on written over by ys
module _ (xs ys : List ℕ) (a n : ℕ) (room : a + n ≤ length xs) (long : length ys ≡ n) where
  front : length (take a xs) ≡ a
  front = length-take-le a xs (omega arith)

  pub length_over : length (take a xs ++ (ys ++ drop (a + n) xs)) ≡ length xs
  length_over = grind (arith, common_steps)

  pub over_below : (i : ℕ) → i < a → get_or (take a xs ++ (ys ++ drop (a + n) xs)) i 0 ≡ get_or xs i 0
  over_below i h = grind (arith, common_steps)

  pub over_above : (i : ℕ) → a + n ≤ i → get_or (take a xs ++ (ys ++ drop (a + n) xs)) i 0 ≡ get_or xs i 0
  over_above i h = grind (arith, common_steps)

  pub over_within : (i : ℕ) → a ≤ i → i < a + n → get_or (take a xs ++ (ys ++ drop (a + n) xs)) i 0 ≡ get_or ys (i - a) 0
  over_within i h h' = grind (arith, common_steps)

  pub part_over : take n (drop a (take a xs ++ (ys ++ drop (a + n) xs))) ≡ ys
  part_over = grind (arith, common_steps)

  -- what is written over twice is as if it had been once
  pub over_over : (zs : List ℕ) → let once : List ℕ = take a xs ++ (ys ++ drop (a + n) xs) in take a once ++ (zs ++ drop (a + n) once) ≡ take a xs ++ (zs ++ drop (a + n) xs)
  over_over zs =
      let once : List ℕ = take a xs ++ (ys ++ drop (a + n) xs) in
      let left : take a once ≡ take a xs = take_at (take a xs) _ a front in
      let right : drop (a + n) once ≡ drop (a + n) xs =
      sym (drop-drop n a once) ∙ ap (drop n) (drop_at (take a xs) _ a front) ∙ drop_at ys _ n long in
      ap₂ (λ l r. l ++ (zs ++ r)) left right

-- a list made by counting, when what is made is the same, and when one element is another
pub map_same : {X : Type 0} (f g : ℕ → X) (n : ℕ) → ((k : ℕ) → k < n → g k ≡ f k) → map g (range_with_len 0 n) ≡ map f (range_with_len 0 n)
map_same f g zero same = refl
map_same f g (suc n) same =
    fill_by_all f (map g (range_with_len 0 (suc n))) (suc n) (g 0) (length-map-range_with_len g 0 (suc n))
    (λ k h. get_or-map-range_with_len g 0 (suc n) k k (g 0) h (zero-add k) ∙ same k h)

pub map_change : {X : Type 0} (f g : ℕ → X) (n k : ℕ) (x : X) → k < n → g k ≡ x → ((j : ℕ) → j < n → j ≢ k → g j ≡ f j) → map g (range_with_len 0 n) ≡ set (map f (range_with_len 0 n)) k x
map_change f g n k x h here there =
    let fs = map f (range_with_len 0 n) in
    let long = length-map-range_with_len f 0 n in
    sym (fill_by_all g (set fs k x) n x (length-set fs k x ∙ long)
    (λ j hj. ⊎_elim
    (λ e. ap (λ i. get_or (set fs k x) i x) e ∙ get_or-set_same fs k x x (omega arith) ∙ sym here ∙ ap g (sym e))
    (λ ne. get_or-set_other fs k j x x ne ∙ get_or-map-range_with_len f 0 n j j x hj (zero-add j) ∙ sym (there j hj ne))
    (cases_eq j k)))

-- zeros in front of words that fit
pub zeros_below : (k : ℕ) (xs : List ℕ) → ((i : ℕ) → get_or xs i 0 < 4294967296) → (i : ℕ) → get_or (replicate k 0 ++ xs) i 0 < 4294967296
zeros_below zero xs below i = below i
zeros_below (suc k) xs below zero = omega arith
zeros_below (suc k) xs below (suc i) = zeros_below k xs below i
