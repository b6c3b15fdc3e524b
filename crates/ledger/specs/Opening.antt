-- Opening: what is answered, and what the words are then. Assumes nothing: these are definitions.
use Rattle.std.specs.Prelude.{ℕ, ◌-◌, List, ◌∷◌, ◌++◌, length, drop, replicate, Ok, Err, Result, nat_le}
use Rattle.auction.specs.Bids.{pick}
use Rattle.ledger.specs.declared.layout.Limits.{Limits}
use Rattle.ledger.specs.declared.opening.Trouble.{Trouble}
use Rattle.ledger.specs.declared.opening.Trouble.TheVariants.{BadLimits, ShortMemory}
use Rattle.ledger.specs.Layout.{good, house_words}

-- the words of a new house: the limits, and nothing else
abbrev pub new_words : Limits → List ℕ
new_words l = l.lots ∷ l.bidders ∷ l.each ∷ 0 ∷ 0 ∷ 0 ∷ 0 ∷ 0 ∷ replicate (house_words l - 8) 0

-- the memory with a new house at its front, and what lies behind as it was
unfoldable pub opened : Limits → List ℕ → List ℕ
opened l m = new_words l ++ drop (house_words l) m

-- what is answered, and what the memory is then
abbrev pub opening : Limits → List ℕ → Result (Unit {0}) Trouble
opening l m = pick (good l) (pick (nat_le (house_words l) (length m)) (Ok tt) (Err ShortMemory)) (Err BadLimits)

abbrev pub after_opening : Limits → List ℕ → List ℕ
after_opening l m = pick (good l) (pick (nat_le (house_words l) (length m)) (opened l m) m) m
