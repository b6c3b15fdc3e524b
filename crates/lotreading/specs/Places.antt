-- Where in a text a place is. Assumes nothing: these are definitions.
use Rattle.std.specs.Prelude.{ℕ, ◌+◌, not, List, count_by, ◌==◌, nat_eq}
use Rattle.std.specs.List.{suffix_len}

-- the line, from 1 on, of what follows these bytes: one more than they have line feeds
abbrev pub line_behind : List ℕ → ℕ
line_behind bs = count_by (λ b. nat_eq b 10) bs + 1

-- and its column, from 1 on: one more than there are bytes behind the last line feed
abbrev pub column_behind : List ℕ → ℕ
column_behind bs = suffix_len (λ b. not (b == 10)) bs + 1
