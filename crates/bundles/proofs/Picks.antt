-- What is picked, once the test is known. Assumes nothing.
use Rattle.std.proofs.Common.{◌≡◌, Bool, true, false, ap}
use Rattle.auction.specs.Bids.{pick}

pub pick_yes : {A : Type 0} {t : Bool} (x y : A) → t ≡ true → pick t x y ≡ x
pick_yes x y e = ap (λ t. pick t x y) e

pub pick_no : {A : Type 0} {t : Bool} (x y : A) → t ≡ false → pick t x y ≡ y
pick_no x y e = ap (λ t. pick t x y) e
