-- What a function for C and Rust returns where it turns its input away. Assumes nothing: these are definitions.
use Rattle.std.specs.Prelude.{ℕ, ◌+◌, ◌*◌, ℤ, pos, neg_ℤ}

-- the number of the refusal, and the place, as one number below 0
abbrev pub turned : ℕ → ℕ → ℤ
turned refusal place = neg_ℤ (pos (refusal * 4294967296 + place))
