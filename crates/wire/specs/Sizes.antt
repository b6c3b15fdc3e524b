-- How many bytes numbers and bids have. Assumes nothing.
use Rattle.std.specs.Prelude.{◌≡◌, ℕ, zero, suc, ◌/◌, [], ◌∷◌, ◌++◌, length}
use Rattle.std.proofs.Common.{refl, ap, arith}
use Rattle.std.proofs.lemmas.List.{length-append}
use Rattle.auction.specs.Bids.{Bid}
use Rattle.bundles.specs.Masks.{mask_of}
use Rattle.wire.specs.Bytes.{bids_bytes, spelled}

pub length-spelled : (k n : ℕ) → length (spelled k n) ≡ k
unfolding spelled
length-spelled zero n = refl
length-spelled (suc k) n = ap suc (length-spelled k (n / 256))

pub length-bid : (b : Bid) → length (bids_bytes (b ∷ [])) ≡ 6
unfolding bids_bytes
length-bid b = omega (arith, length-append (spelled 2 (mask_of b.on)) (spelled 4 b.price ++ []), length-append (spelled 4 b.price) [], length-spelled 2 (mask_of b.on), length-spelled 4 b.price)
