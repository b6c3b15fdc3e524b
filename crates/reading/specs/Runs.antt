-- What a run of bytes comes to. Assumes nothing: these are definitions.
use Rattle.std.specs.Prelude.{◌≡◌, ℕ, ◌<◌, List, Ok, Err, Option, Result}
use Rattle.reading.specs.Reads.{Read, got, stuck}

-- what was made of it, or why no more can be, and what is left
pub data Run (X E : Type 0) : Type 0 where
  made : X → List ℕ → Run X E
  halted : E → List ℕ → Run X E

abbrev pub further : {X Y E : Type 0} → Result X E → List ℕ → (X → Run Y E) → Run Y E
further (Ok x) bs next = next x
further (Err e) bs next = halted e bs

-- as a function of the code gives it
abbrev pub ran : {X E : Type 0} → Result X E → List ℕ → Run X E
ran (Ok x) left = made x left
ran (Err e) left = halted e left

abbrev pub read_of : {X E : Type 0} → Run X E → Read X
read_of (made x left) = got x left
read_of (halted e left) = stuck left

-- each answer for a byte is what the function says
abbrev pub Sorts : {D : Type 0} → (ℕ → Option D → Type 0) → (ℕ → Option D) → Type 0
Sorts {D} answers sort = (b : ℕ) (o : Option D) → b < 256 → answers b o → o ≡ sort b

-- and each for what there is and what comes to it
abbrev pub Makes : {X D E : Type 0} → (X → D → Result X E → Type 0) → (X → D → Result X E) → Type 0
Makes {X} {D} {E} answers more = (n : X) (d : D) (r : Result X E) → answers n d r → r ≡ more n d
