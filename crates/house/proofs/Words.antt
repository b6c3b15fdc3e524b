-- Words gone through one by one: what holds of each that is still to come holds of the next, and of each behind it. Assumes nothing.
use Rattle.std.proofs.Common.{◌≡◌, suc, List, ◌∷◌, length, All, Contains, Bor, Iter, Option, Some, None, MatchOption, subst, sym, arith}
use Rattle.std.proofs.lemmas.List.Elements.{All-contains_itself}

module _ {A : Type 0} (P : A → Type 0) (s t : Iter A) where
  pub next_all : (r : Option (Bor A)) → MatchOption r ((length s.rest.now ≡ 0) × (t ≡ s)) (λ x. s.rest.now ≡ x.now ∷ t.rest.now) → All P s.rest.now → All P t.rest.now
  next_all None none h = subst (λ i. All P i.rest.now) (sym none.1) h
  next_all (Some x) e h = λ k d inside. subst (All P) e h (suc k) d (omega (arith, inside))

pub first_all : {A : Type 0} (P : A → Type 0) (xs ys : List A) (x : A) → xs ≡ x ∷ ys → All P xs → P x
first_all P xs ys x e h = subst (All P) e h 0 x (omega arith)

pub all_among : {A : Type 0} (xs ys : List A) → ys ≡ xs → All (Contains xs) ys
all_among xs ys e = subst (All (Contains xs)) (sym e) (All-contains_itself xs)
