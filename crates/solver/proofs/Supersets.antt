-- Going over the sets that hold all pieces of a set s, in the order of their numbers: behind m comes (m + 1) | s. Assumes nothing.
use Rattle.std.proofs.Common.{◌≡◌, ℕ, zero, suc, ◌+◌, ◌/◌, ◌%◌, ◌^◌, ◌<◌, ◌≤◌, ◌⊎◌, sym, ap, ◌∙◌, inl, inr, pow-suc, arith}
use lib.Bits.{bit_and, bit_or, and_step, or_step, and_zero_l, and_zero_r, or_zero_r, and_comm, and_le_r, or_add_and}
use Rattle.std.proofs.lemmas.Bool.{cases_eq}

-- what is joined with s holds s
pub or_holds : (k m s : ℕ) → s < 2 ^ k → bit_and s (bit_or m s) ≡ s
or_holds zero m s h = let none : s ≡ 0 = omega arith in rw (none, and_zero_l)
or_holds (suc k) m s h =
    let half : bit_or m s / 2 ≡ bit_or (m / 2) (s / 2) = omega (arith, or_step m s) in
    let upper : bit_and (s / 2) (bit_or m s / 2) ≡ s / 2 = rw half (or_holds k (m / 2) (s / 2) (omega (arith, pow-suc 2 k))) in
    omega (arith, and_step s (bit_or m s), or_step m s)

pub next_past : (m s : ℕ) → m < bit_or (m + 1) s
next_past m s = omega (arith, or_add_and (m + 1) s, and_le_r (m + 1) s)

-- the bits above the lowest, of a set that is held
pub upper_held : (s m : ℕ) → bit_and s m ≡ s → (bit_and (s / 2) (m / 2) ≡ s / 2) × (s % 2 ≤ m % 2)
upper_held s m e = (omega (arith, and_step s m), omega (arith, and_step s m))

-- joined with what it holds already, a set stays
or_held : (m s : ℕ) → bit_and s m ≡ s → bit_or m s ≡ m
or_held m s e = omega (arith, or_add_and m s, and_comm s m)

-- a number has no more bits than it says
pub below_power : (m : ℕ) → m < 2 ^ m
below_power zero = omega arith
below_power (suc m) = omega (arith, pow-suc 2 m, below_power m)

-- none is left out: every set past m that holds s comes at (m + 1) | s or later
pub next_least : (k m x s : ℕ) → m < 2 ^ k → bit_and s m ≡ s → bit_and s x ≡ s → m < x → bit_or (m + 1) s ≤ x
next_least zero m x s hm held held_x past =
    let none : m ≡ 0 = omega arith in
    let empty : s ≡ 0 = sym held ∙ ap (bit_and s) none ∙ and_zero_r s in
    rw (empty, or_zero_r) (omega arith)
next_least (suc k) m x s hm held held_x past = go (λ past-low. next_least k (m / 2) (x / 2) (s / 2) (omega (arith, pow-suc 2 k)) (upper_held s m held).0 (upper_held s x held_x).0 past-low) (cases_eq (m % 2) 0)
  where
    go : (m / 2 < x / 2 → bit_or (m / 2 + 1) (s / 2) ≤ x / 2) → (m % 2 ≡ 0) ⊎ (m % 2 ≡ 0 → ⊥) → bit_or (m + 1) s ≤ x
    go rest (inl even) =
        let u = upper_held s m held in
        let half : (m + 1) / 2 ≡ m / 2 = omega arith in
        let same : bit_or ((m + 1) / 2) (s / 2) ≡ m / 2 = rw half (or_held (m / 2) (s / 2) u.0) in
        omega (arith, or_step (m + 1) s)
    go rest (inr odd) =
        let v = upper_held s x held_x in
        let half : (m + 1) / 2 ≡ m / 2 + 1 = omega arith in
        let more : bit_or ((m + 1) / 2) (s / 2) ≤ x / 2 = rw half (rest (omega arith)) in
        omega (arith, or_step (m + 1) s)
