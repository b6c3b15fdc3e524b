-- Things read one after the other, and kept as they come. Assumes nothing.
use Rattle.std.proofs.Common.{◌≡◌, ℕ, suc, ◌+◌, ◌-◌, ◌<◌, Bool, true, false, ltb, List, [], ◌∷◌, ◌++◌, map, length, sym, refl, ap, ◌∙◌, arith}
use Rattle.std.proofs.lemmas.List.{append_assoc, length_push, map_push}
use Rattle.std.proofs.lemmas.Bool.{ltb-true}
use Rattle.std.proofs.lemmas.Bool.Decides.{nat_tests}
use Rattle.auction.specs.Bids.{pick}
use Rattle.lotreading.specs.Finds.{Find, and_then, found, missed}
use Rattle.lotreading.specs.Lots.{several}

-- what was found behind these things, with them in front
abbrev pub onto : {X : Type 0} → List X → Find (List X) → Find (List X)
onto done (found more left) = found (done ++ more) left
onto done (missed e left) = missed e left

pub onto_none : {X : Type 0} (r : Find (List X)) → onto [] r ≡ r
onto_none (found more left) = refl
onto_none (missed e left) = refl

module _ {X : Type 0} (done : List X) where
  onto_one : (x : X) (r : Find (List X)) → onto done (and_then r (λ xs behind. found (x ∷ xs) behind)) ≡ onto (done ++ (x ∷ [])) r
  onto_one x (found more left) = ap (λ l. found l left) (sym (append_assoc done (x ∷ []) more))
  onto_one x (missed e left) = refl

  onto_pick : (t : Bool) (a b : Find (List X)) → onto done (pick t a b) ≡ pick t (onto done a) (onto done b)
  onto_pick true a b = refl
  onto_pick false a b = refl

-- what there is with these things kept, of which each means what f says, if the others are read from here on
abbrev pub rest_of : {X Y : Type 0} → (Y → X) → (List ℕ → Find X) → (Bool → X → List ℕ → Find Bool) → ℕ → List Y → List ℕ → Find (List X)
rest_of f one more most done bs = onto (map f done) (several one more (most - length done) bs)

-- one more, and those behind it if another follows
module _ {X Y : Type 0} (f : Y → X) (one : List ℕ → Find X) (more : Bool → X → List ℕ → Find Bool) (most : ℕ) (done : List Y) where
  pub several_next : (bs : List ℕ) → length done < most → rest_of f one more most done bs ≡ and_then (one bs) (λ x left. and_then (more (ltb (length done + 1) most) x left) (λ t from. pick t (onto (map f done ++ (x ∷ [])) (several one more (most - (length done + 1)) from)) (found (map f done ++ (x ∷ [])) from)))
  unfolding several
  several_next bs few = let next : most - length done ≡ suc (most - (length done + 1)) = omega (arith, few) in ap (λ k. onto (map f done) (several one more k bs)) next ∙ go (one bs)
    where
      room : ltb 0 (most - (length done + 1)) ≡ ltb (length done + 1) most
      room = grind (arith, nat_tests)

      another : (x : X) (o : Find Bool) → onto (map f done) (and_then o (λ t from. pick t (and_then (several one more (most - (length done + 1)) from) (λ xs behind. found (x ∷ xs) behind)) (found (x ∷ []) from))) ≡ and_then o (λ t from. pick t (onto (map f done ++ (x ∷ [])) (several one more (most - (length done + 1)) from)) (found (map f done ++ (x ∷ [])) from))
      another x (missed e from) = refl
      another x (found t from) = rw (onto_pick, onto_one (map f done) x _) refl

      go : (r : Find X) → onto (map f done) (and_then r (λ x left. and_then (more (ltb 0 (most - (length done + 1))) x left) (λ t from. pick t (and_then (several one more (most - (length done + 1)) from) (λ xs behind. found (x ∷ xs) behind)) (found (x ∷ []) from)))) ≡ and_then r (λ x left. and_then (more (ltb (length done + 1) most) x left) (λ t from. pick t (onto (map f done ++ (x ∷ [])) (several one more (most - (length done + 1)) from)) (found (map f done ++ (x ∷ [])) from)))
      go (missed e left) = refl
      go (found x left) = rw room (another x _)

pub ruleset several_steps = (onto_none, several_next, map_push, length_push, ltb-true)
