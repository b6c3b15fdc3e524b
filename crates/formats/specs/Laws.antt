-- What is promised of the formats. Each is a statement, whose proof is owed by the function that names it. Assumes nothing.
use Rattle.std.specs.Prelude.{◌≡◌, ℕ, ◌<◌, ◌≤◌, Bool, true, not, ◌&&◌, List, ◌++◌, length, take, ◌==◌, nat_le, nat_lt}
use Rattle.auction.specs.House.{Call, garbled, call_number, Answer, refused, number, two, list}
use Rattle.auction.specs.Promise.{readable, fields_of}
use Rattle.wire.specs.Answers.{heard, answer_bytes, answer_in}
use Rattle.wire.specs.Bytes.{AllBytes}
use Rattle.wire.specs.Calls.{call_bytes, call_in}

-- a call, and not bytes that are none
abbrev pub is_call : Call → Bool
is_call c = not (call_number c == 255)

-- reading the bytes of a call gives it back, for every call that its fields can carry
unfoldable pub CallsComeBack : Type 0
CallsComeBack = (c : Call) → is_call c ≡ true → readable c ≡ true → call_in (call_bytes c) ≡ c

-- writing the call that was read gives its bytes back
unfoldable pub BytesComeBack : Type 0
BytesComeBack = (bs : List ℕ) → AllBytes bs → is_call (call_in bs) ≡ true → call_bytes (call_in bs) ≡ bs

-- two different rows of bytes are never the same call
unfoldable pub OneRowACall : Type 0
OneRowACall = (bs cs : List ℕ) → AllBytes bs → AllBytes cs → is_call (call_in bs) ≡ true → call_in bs ≡ call_in cs → bs ≡ cs

-- what is read has fields that a call can carry, a place included
unfoldable pub ReadIsReadable : Type 0
ReadIsReadable = (bs : List ℕ) → AllBytes bs → readable (call_in bs) ≡ true

-- some call begins so
abbrev pub Begins : List ℕ → Type 0
Begins front = (c : Call) × (more : List ℕ) × (is_call c ≡ true) × (readable c ≡ true) × (call_bytes c ≡ front ++ more)

-- the place at which bytes cease to be a call is the length of their longest beginning that some call has
unfoldable pub PlaceIsLongest : Type 0
PlaceIsLongest =
    (bs : List ℕ) (n : ℕ) → AllBytes bs → call_in bs ≡ garbled n →
    (n ≤ length bs) × Begins (take n bs) × ((m : ℕ) → n < m → m ≤ length bs → Begins (take m bs) → ⊥)

-- an answer of a house: its numbers fit, and it has sixteen bids at most
abbrev pub carried : Answer → Bool
carried (refused n p) = (nat_le 1 n && nat_le n 8) && nat_lt p 18446744073709551616
carried (number n) = nat_lt n 18446744073709551616
carried (two a b) = nat_lt a 18446744073709551616 && nat_lt b 18446744073709551616
carried (list bs) = nat_le (length bs) 16 && fields_of bs

-- reading the bytes of an answer gives it back
unfoldable pub AnswersComeBack : Type 0
AnswersComeBack = (a : Answer) → carried a ≡ true → answer_in (answer_bytes a) ≡ heard a

-- and an answer never needs more than the 256 bytes that are lent for it
unfoldable pub AnswersFit : Type 0
AnswersFit = (a : Answer) → carried a ≡ true → length (answer_bytes a) ≤ 256
