-- An array made by a function of the place that changes nothing. Assumes nothing.
use Rattle.std.proofs.Common.{◌≡◌, ℕ, zero, suc, ◌+◌, ◌<◌, ◌≤◌, ◌⊎◌, List, get_or, sym, subst, inl, inr, arith}
use denote.Param.Members.{Mut}
use Rattle.std.specs.Fn.{Called}
use Rattle.std.specs.Array.{IsFromFnResult, IsFromFnResultFrom}
use Rattle.std.proofs.lemmas.Bool.{cases_eq}

module _ {F B : Type 0} (g : Mut F (ℕ × Unit {0}) B) (f : F) (ys : List B) (P : ℕ → B → Type 0) (says : (k : ℕ) (y : B) (q : F) → Called g f (k, tt) y q → P k y × (q ≡ f)) where
  made_from : (i n : ℕ) → IsFromFnResultFrom g f ys i n → (j : ℕ) (d : B) → i ≤ j → j < i + n → P j (get_or ys j d)
  made_from i zero made j d le lt = absurd (omega arith)
  made_from i (suc n) made j d le lt = go (λ ne. made_from (i + 1) n (next said.1) j d (omega arith) (omega arith)) (cases_eq j i)
    where
      said : P i made.1 × (made.0 ≡ f)
      said = says i made.1 made.0 made.3

      next : made.0 ≡ f → IsFromFnResultFrom g f ys (i + 1) n
      next e = let R : F → Type 0 = λ p. IsFromFnResultFrom g p ys (i + 1) n in subst R e made.4

      go : ((j ≡ i → ⊥) → P j (get_or ys j d)) → (j ≡ i) ⊎ (j ≡ i → ⊥) → P j (get_or ys j d)
      go later (inl e) = let Q : ℕ → Type 0 = λ k. P k (get_or ys k d) in subst Q (sym e) (subst (P i) (sym (made.2.1 d)) said.0)
      go later (inr ne) = later ne

  pub made_each : (n : ℕ) → IsFromFnResult g f ys n → (j : ℕ) (d : B) → j < n → P j (get_or ys j d)
  made_each n made j d lt = made_from 0 n made.each j d (omega arith) (omega arith)
