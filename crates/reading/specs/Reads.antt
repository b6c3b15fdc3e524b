-- What reading the front of a line comes to: a value and what is left of the line, or what is left where it can't go on. Assumes nothing: these are definitions.
use Rattle.std.specs.Prelude.{ℕ, List}

pub data Read (X : Type 0) : Type 0 where
  got : X → List ℕ → Read X
  stuck : List ℕ → Read X  -- from the byte on that does not fit, or nothing where the line ends too soon

-- one thing read, and the next behind it
abbrev pub then : {X Y : Type 0} → Read X → (X → List ℕ → Read Y) → Read Y
then (got x left) next = next x left
then (stuck left) next = stuck left
