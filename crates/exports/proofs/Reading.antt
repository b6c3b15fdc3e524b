-- A caller's words of bids, read row by row. Assumes nothing.
use Rattle.std.proofs.Common.{◌≡◌, ℕ, zero, suc, ◌+◌, ◌*◌, ◌<◌, ◌≤◌, List, [], ◌∷◌, ◌++◌, get_or, take, drop, sym, refl, ap, ◌∙◌, ap₂, arith}
use Rattle.std.proofs.lemmas.List.FromFn.{map-range_with_len_more}
use Rattle.std.proofs.lemmas.List.{drop-drop, get_or-take, map_push}
use Rattle.std.specs.Simd.{first_chunks}
use Rattle.bundles.specs.Offers.{all_meant}
use Rattle.bundles.specs.Rows.{Row, all_held, held}
use Rattle.exports.specs.Filling.{row_in, rows_in}

-- a chunk of n words, by its place
chunk_at : (n k i : ℕ) (ws d : List ℕ) → i < k → get_or (first_chunks n k ws) i d ≡ take n (drop (n * i) ws)
chunk_at n zero i ws d h = absurd (omega arith)
chunk_at n (suc k) zero ws d h = let none : n * 0 ≡ 0 = omega arith in rw none refl
chunk_at n (suc k) (suc i) ws d h =
    chunk_at n k i (drop n ws) d (omega arith) ∙ ap (take n) (drop-drop (n * i) n ws ∙ ap (λ j. drop j ws) (omega arith))

-- one row more
pub rows_more : (ws : List ℕ) (rows rows' : List Row) (row : Row) (i : ℕ) → rows' ≡ rows ++ row ∷ [] → all_held rows ≡ rows_in ws i → all_meant (held row) ≡ row_in ws i
    → all_held rows' ≡ rows_in ws (i + 1)
rows_more ws rows rows' row i more read here =
    ap all_held more ∙ map_push (λ (r : Row). all_meant (held r)) rows row ∙ ap₂ (λ xs x. xs ++ x ∷ []) read here
    ∙ sym (map-range_with_len_more (row_in ws) 0 i i (omega arith))

-- the words of the row that is next are those of its chunk
pub here : (ws : List ℕ) (chunks : List (List ℕ)) (k n i : ℕ) (d : List ℕ) → chunks ≡ first_chunks 32 k ws → i < n → n ≤ k → get_or (take n chunks) i d ≡ take 32 (drop (32 * i) ws)
here ws chunks k n i d e lt few = get_or-take n chunks i d lt ∙ ap (λ c. get_or c i d) e ∙ chunk_at 32 k i ws d (omega arith)
