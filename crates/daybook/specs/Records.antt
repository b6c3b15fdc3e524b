-- Records in one row of bytes: which they are, and how they are written. Assumes nothing: these are definitions.
-- A record is its length in two bytes, low byte first, and then that many bytes. Where the row ends too early, the last record has the bytes that are there; a lone byte at the end, half a length, is left out.
use Rattle.std.specs.Prelude.{ℕ, zero, suc, ◌+◌, ◌*◌, Bool, ◌&&◌, List, [], ◌∷◌, ◌++◌, map, length, take, nat_le}
use Rattle.auction.specs.House.{Call, Answer}
use Rattle.auction.specs.Promise.{told_by, left_by}
use Rattle.keeper.specs.Keeping.{the_keeper}
use Rattle.ledger.specs.Layout.{good, house_words}
use Rattle.ledger.specs.declared.layout.Limits.{Limits}
use Rattle.daybook.specs.declared.records.Records.{Records}
use Rattle.wire.specs.Answers.{answer_bytes}
use Rattle.wire.specs.Bytes.{spelled}
use Rattle.wire.specs.Calls.{call_in}

-- the records that begin behind so many bytes
unfoldable pub records_behind : ℕ → List ℕ → List (List ℕ)
records_behind zero [] = []
records_behind zero (a ∷ []) = []
records_behind zero (a ∷ b ∷ bs) = take (a + 256 * b) bs ∷ records_behind (a + 256 * b) bs
records_behind (suc n) [] = []
records_behind (suc n) (b ∷ bs) = records_behind n bs

abbrev pub records : List ℕ → List (List ℕ)
records bs = records_behind 0 bs

-- the records that are yet to come of those that are gone through one by one
abbrev pub left_in : Records → List (List ℕ)
left_in r = records r.rest.now

-- a record with its length before it, and records one after the other
abbrev pub framed_one : List ℕ → List ℕ
framed_one r = spelled 2 (length r) ++ r

unfoldable pub framed : List (List ℕ) → List ℕ
framed [] = []
framed (r ∷ rs) = framed_one r ++ framed rs

-- the calls that the records are, and answers as records
abbrev pub calls_in : List ℕ → List Call
calls_in bs = map call_in (records bs)

abbrev pub answer_records : List Answer → List ℕ
answer_records rs = framed (map answer_bytes rs)

-- what the keeper answers to calls on these words, and which words they leave
abbrev pub told : List ℕ → List Call → List Answer
told m cs = told_by the_keeper (record { words = m }) cs

abbrev pub left : List ℕ → List Call → List ℕ
left m cs = (left_by the_keeper (record { words = m }) cs).words

-- are the limits in range, and these words enough for a house of them?
abbrev pub roomy : Limits → List ℕ → Bool
roomy l m = good l && nat_le (house_words l) (length m)
