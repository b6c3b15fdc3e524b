-- What reading the front of a text comes to: a value and what is left of the text, or what was expected and what is left where it is not. Assumes nothing: these are definitions.
use Rattle.std.specs.Prelude.{ℕ, List}
use Rattle.reading.specs.Reads.{Read, got, stuck}
use Rattle.reading.specs.Runs.{Run, halted, made}
use Rattle.lotreading.specs.declared.expected.Expected.{Expected}

pub data Find (X : Type 0) : Type 0 where
  found : X → List ℕ → Find X
  missed : Expected → List ℕ → Find X

-- one thing read, and the next behind it
abbrev pub and_then : {X Y : Type 0} → Find X → (X → List ℕ → Find Y) → Find Y
and_then (found x left) next = next x left
and_then (missed e left) next = missed e left

-- what was read, or what was expected where it can't be read on
abbrev pub expecting : {X : Type 0} → Expected → Read X → Find X
expecting e (got x left) = found x left
expecting e (stuck left) = missed e left

-- what a run of bytes comes to
abbrev pub found_of : {X : Type 0} → Run X Expected → Find X
found_of (made x left) = found x left
found_of (halted e left) = missed e left
