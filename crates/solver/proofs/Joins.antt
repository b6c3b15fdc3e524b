-- The most of two tables together, set by set. Assumes nothing.
use Rattle.std.proofs.Common.{◌≡◌, ℕ, ◌+◌, ◌<◌, ◌≤◌, ◌⊎◌, max, List, inl, inr, arith}
use Rattle.std.proofs.lemmas.Bool.{cases_eq, cases_lt}
use Rattle.solver.specs.Paying.{together}

-- so far: no set below this one comes to more, and one to as much, unless nothing comes to anything
pub record Joining (a b : List ℕ) (w set most : ℕ) : Type 0 where
  pub none_more : (s : ℕ) → s < set → together a b w s ≤ most
  pub some : (most ≡ 0) ⊎ ((s : ℕ) × (s < set) × (together a b w s ≡ most))

module _ (a b : List ℕ) (w set most : ℕ) (j : Joining a b w set most) where
  more_below : (s : ℕ) → s < set + 1 → (s ≡ set) ⊎ (s ≡ set → ⊥) → together a b w s ≤ max (together a b w set) most
  more_below s lt (inl e) = rw e (omega arith)
  more_below s lt (inr ne) = omega (arith, j.none_more s (omega arith))

  -- this set comes to more, or it does not
  some_more : (most < together a b w set) ⊎ (together a b w set ≤ most) → (max (together a b w set) most ≡ 0) ⊎ ((s : ℕ) × (s < set + 1) × (together a b w s ≡ max (together a b w set) most))
  some_more (inr less) = go j.some
    where
      go : (most ≡ 0) ⊎ ((s : ℕ) × (s < set) × (together a b w s ≡ most)) → (max (together a b w set) most ≡ 0) ⊎ ((s : ℕ) × (s < set + 1) × (together a b w s ≡ max (together a b w set) most))
      go (inl none) = inl (omega arith)
      go (inr some) = inr (some.0, omega (arith, some.1), omega (arith, some.2))
  some_more (inl more) = inr (set, omega arith, omega arith)

  pub joining_more : (both more : ℕ) → both ≡ together a b w set → more ≡ max both most → Joining a b w (set + 1) more
  joining_more both more here most-is =
      rw (most-is, here) (record { none_more = λ s h. more_below s h (cases_eq s set); some = some_more (cases_lt most (together a b w set)) })
