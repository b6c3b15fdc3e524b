-- One byte more of a text: what is left of it gives what was to be read. Assumes nothing.
use Rattle.std.proofs.Common.{◌≡◌, ℕ, Bool, ◌||◌, List, [], ◌∷◌, drop, refl}
use Rattle.auction.specs.Bids.{pick}
use Rattle.reading.specs.Lines.{given, next}
use Rattle.lotreading.specs.Parts.{blank, remark, skip}

-- blanks and remarks, by their first byte
pub skip_next : (t : Bool) (bs : List ℕ) → skip t bs ≡ given (next bs) bs (λ b. pick (remark t b || blank b) (skip (remark t b) (drop 1 bs)) bs)
unfolding skip
skip_next t [] = refl
skip_next t (b ∷ bs) = refl
