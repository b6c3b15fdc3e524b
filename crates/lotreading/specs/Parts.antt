-- The parts of a text of several lines: blanks and remarks, and numbers of a range. Assumes nothing: these are definitions.
use Rattle.std.specs.Prelude.{ℕ, Bool, false, not, ◌&&◌, ◌||◌, List, [], ◌∷◌, ◌==◌, nat_le}
use Rattle.auction.specs.Bids.{pick}
use Rattle.reading.specs.Lines.{number, starts}
use Rattle.reading.specs.Reads.{Read, got, stuck}

-- a space, a tab, a line feed or a carriage return
abbrev pub blank : ℕ → Bool
blank b = b == 32 || (b == 9 || (b == 10 || b == 13))

-- is a byte in a remark, which goes from `#` to the line's end? t: the byte before it is
abbrev pub remark : Bool → ℕ → Bool
remark t b = (t || b == 35) && not (b == 10)

-- what follows the blanks and the remarks; t: it begins within a remark
unfoldable pub skip : Bool → List ℕ → List ℕ
skip t [] = []
skip t (b ∷ bs) = pick (remark t b || blank b) (skip (remark t b) bs) (b ∷ bs)

abbrev pub behind_blanks : List ℕ → List ℕ
behind_blanks bs = skip false bs

-- does a blank or a remark begin here?
abbrev pub blank_here : List ℕ → Bool
blank_here bs = starts (λ b. remark false b || blank b) bs

-- one blank or more
abbrev pub gap : List ℕ → Read (Unit {0})
gap bs = pick (blank_here bs) (got tt (behind_blanks bs)) (stuck bs)

-- a number from least to most; any other does not fit where it begins
abbrev pub in_range : ℕ → ℕ → List ℕ → Read ℕ → Read ℕ
in_range least most bs (got n left) = pick (nat_le least n && nat_le n most) (got n left) (stuck bs)
in_range least most bs (stuck left) = stuck bs

abbrev pub ranged : ℕ → ℕ → List ℕ → Read ℕ
ranged least most bs = in_range least most bs (number bs)
