-- What a reader of the code has found, and has not. Assumes nothing: these are definitions.
use Rattle.std.specs.Prelude.{ℕ, List, Ok, Err, Result}
use Rattle.lotreading.specs.Finds.{Find, found, missed}
use Rattle.lotreading.specs.declared.expected.Expected.{Expected}

-- what was found, by its meaning, and what is left: on an error, from where what was expected is not
abbrev pub finds_as : {X Y : Type 0} → (X → Y) → Result X Expected → List ℕ → Find Y
finds_as f (Ok x) left = found (f x) left
finds_as f (Err e) left = missed e left

abbrev pub finds : {X : Type 0} → Result X Expected → List ℕ → Find X
finds r left = finds_as (λ x. x) r left
