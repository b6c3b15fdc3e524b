-- What a reader of the code has read, and has not. Assumes nothing: these are definitions.
use Rattle.std.specs.Prelude.{ℕ, List, Ok, Err, Result}
use Rattle.reading.specs.Reads.{Read, got, stuck}

-- what was read, by its meaning, and what is left: on an error, from the byte on that does not fit
abbrev pub seen_as : {X E Y : Type 0} → (X → Y) → Result X E → List ℕ → Read Y
seen_as f (Ok x) left = got (f x) left
seen_as f (Err e) left = stuck left

abbrev pub seen : {X E : Type 0} → Result X E → List ℕ → Read X
seen r left = seen_as (λ x. x) r left
