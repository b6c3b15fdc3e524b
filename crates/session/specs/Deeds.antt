-- What a call does to the lent memory and what it is answered. Assumes nothing: these are definitions.
use Rattle.std.specs.Prelude.{◌≡◌, ℕ, List, Result, MatchResult}
use Rattle.auction.specs.House.{Call}
use Rattle.keeper.specs.Keeping.{next_in, says_in}
use Rattle.rules.specs.Checks.{Refuses}
use Rattle.rules.specs.declared.turned.Turned.{Turned}
use Rattle.wire.specs.Meaning.{said}
use Rattle.wire.specs.declared.answer.Answer.{Answer}

-- the memory is the keeper's next, and the answer what the keeper says
pub record Done (before : List ℕ) (c : Call) (after : List ℕ) (a : Answer) : Type 0 where
  pub memory : after ≡ next_in before c
  pub answer : said a ≡ says_in before c

-- a deed is done and answered, or the call is turned away and the memory stays as it is
abbrev pub Does : List ℕ → Call → List ℕ → Result Answer Turned → Type 0
Does before c after r = MatchResult r (λ a. Done before c after a) (λ t. Refuses before c t × (after ≡ before))
