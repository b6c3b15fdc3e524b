-- The rows of a group's members, and those of their bids that matter, one bidder after the other. Assumes nothing.
use Rattle.std.proofs.Common.{◌≡◌, ℕ, ◌+◌, ◌-◌, ◌<◌, ◌⊎◌, List, [], ◌∷◌, ◌++◌, map, length, get_or, sym, ap, ap₂, ◌∙◌, subst, inl, inr, length-append, arith}
use Rattle.std.specs.List.{range_with_len}
use Rattle.std.proofs.lemmas.List.{map-append, get_or-append_right, get_or_append_left}
use Rattle.std.proofs.lemmas.List.FromFn.{map-range_with_len_more}
use Rattle.std.proofs.lemmas.Bool.{cases_eq}
use Rattle.auction.specs.Bids.{Bids}
use Rattle.auction.specs.Faster.{Kept}
use Rattle.bundles.specs.Offers.{all_meant}
use Rattle.bundles.specs.Rows.{Row, held, all_held}
use Rattle.solver.specs.Sharing.{AllKept}
use Rattle.solver.proofs.Bidders.{as_many}

pub record Gathered (f : ℕ → Bids) (i : ℕ) (members kept : List Row) : Type 0 where
  pub long : length members ≡ i
  pub kept_long : length kept ≡ i
  pub bids : all_held members ≡ map f (range_with_len 0 i)
  pub each : (j : ℕ) → j < i → Kept (get_or (all_held kept) j []) (get_or (all_held members) j [])

pub gathered_more : (f : ℕ → Bids) (i : ℕ) (members kept : List Row) → Gathered f i members kept → (m k : Row) → all_meant (held m) ≡ f i → Kept (all_meant (held k)) (all_meant (held m)) →
    Gathered f (i + 1) (members ++ m ∷ []) (kept ++ k ∷ [])
gathered_more f i members kept g m k is matters =
    record {
      long = omega (arith, length-append members (m ∷ []), g.long);
      kept_long = omega (arith, length-append kept (k ∷ []), g.kept_long);
      bids = more members m ∙ ap₂ (λ (xs : List Bids) (b : Bids). xs ++ b ∷ []) g.bids is ∙ sym (map-range_with_len_more f 0 i i (omega arith));
      each = λ j h. at j h (cases_eq j i);
    }
  where
    more : (xs : List Row) (x : Row) → all_held (xs ++ x ∷ []) ≡ all_held xs ++ all_meant (held x) ∷ []
    more xs x = map-append (λ (r : Row). all_meant (held r)) xs (x ∷ [])

    last : (xs : List Row) (x : Row) → length xs ≡ i → get_or (all_held (xs ++ x ∷ [])) i [] ≡ all_meant (held x)
    last xs x e = ap (λ (ys : List Bids). get_or ys i []) (more xs x) ∙ get_or-append_right (all_held xs) (all_meant (held x) ∷ []) i i [] (as_many xs ∙ e) (omega arith) ∙ ap (λ (n : ℕ). get_or (all_meant (held x) ∷ []) n []) none
      where
        none : i - i ≡ 0
        none = omega arith

    before : (xs : List Row) (x : Row) (j : ℕ) → length xs ≡ i → j < i → get_or (all_held (xs ++ x ∷ [])) j [] ≡ get_or (all_held xs) j []
    before xs x j e lt = ap (λ (ys : List Bids). get_or ys j []) (more xs x) ∙ get_or_append_left (all_held xs) (all_meant (held x) ∷ []) [] j (omega (arith, as_many xs, e))

    at : (j : ℕ) → j < i + 1 → (j ≡ i) ⊎ (j ≡ i → ⊥) → Kept (get_or (all_held (kept ++ k ∷ [])) j []) (get_or (all_held (members ++ m ∷ [])) j [])
    at j h (inl e) =
        let P : ℕ → Type 0 = λ n. Kept (get_or (all_held (kept ++ k ∷ [])) n []) (get_or (all_held (members ++ m ∷ [])) n []) in
        subst P (sym e) (rw (last kept k g.kept_long, last members m g.long) matters)
    at j h (inr ne) = let lt : j < i = omega (arith, ne) in rw (before kept k j g.kept_long lt, before members m j g.long lt) (g.each j lt)

pub gathered_all : (f : ℕ → Bids) (i : ℕ) (members kept : List Row) → Gathered f i members kept → AllKept (all_held kept) (all_held members)
gathered_all f i members kept g = record { long = as_many kept ∙ g.kept_long ∙ sym (as_many members ∙ g.long); each = λ j h. g.each j (omega (arith, as_many members, g.long)) }
