-- What the program writes for a line. Assumes nothing: these are definitions.
use Rattle.std.specs.Prelude.{ℕ, ◌-◌, List, [], ◌∷◌, ◌++◌, length, take, ◌==◌, slice_index}
use Rattle.auction.specs.Bids.{pick}
use Rattle.keeper.specs.Keeping.{next_in, says_in}
use Rattle.printing.specs.Lines.{answer_text}
use Rattle.reading.specs.Calls.{line_in}
use Rattle.reading.specs.Lines.{silent}

-- a line without its line end, if it has one
abbrev pub body : List ℕ → List ℕ
body line = pick (length line == 0) line (pick (slice_index line (length line - 1) == 10) (take (length line - 1) line) line)

-- a line that is no call changes nothing and is not answered; any other is the call that it is, and is answered by the line of what the keeper says
abbrev pub after_line : List ℕ → List ℕ → List ℕ
after_line m line = pick (silent line) m (next_in m (line_in line))

abbrev pub answered : List ℕ → List ℕ → List ℕ
answered m line = pick (silent line) [] (answer_text (says_in m (line_in line)) ++ (10 ∷ []))
