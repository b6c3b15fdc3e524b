-- Rows put one after the other into an array. Assumes nothing.
use Rattle.std.proofs.Common.{◌≡◌, ℕ, ◌+◌, ◌<◌, List, [], ◌∷◌, ◌++◌, map, length, take, set, sym, ap, ◌∙◌, ap₂, arith}
use Rattle.std.specs.List.{range_with_len}
use Rattle.std.proofs.lemmas.List.FromFn.{map-range_with_len_more}
use Rattle.std.proofs.lemmas.List.{map_push, take_more_set}
use Rattle.auction.specs.Bids.{Bids}
use Rattle.bundles.specs.Offers.{all_meant}
use Rattle.bundles.specs.Rows.{Row, held, all_held}

-- one row more, of the bidder that is next
pub rows_more : (rows : List Row) (row : Row) (f : ℕ → Bids) (i : ℕ) → i < length rows → all_meant (held row) ≡ f i → all_held (take i rows) ≡ map f (range_with_len 0 i) →
    all_held (take (i + 1) (set rows i row)) ≡ map f (range_with_len 0 (i + 1))
rows_more rows row f i h is inv =
    ap all_held (take_more_set rows i row h) ∙ map_push (λ (r : Row). all_meant (held r)) (take i rows) row ∙ ap₂ (λ xs x. xs ++ x ∷ []) inv is ∙ sym (map-range_with_len_more f 0 i i (omega arith))
