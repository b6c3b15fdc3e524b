use Rattle.std.proofs.Common.{◌≡◌, length, All, Any, Contains, IfSome, string_bytes}
use Rattle.ledger.specs.Layout.{Good}
use Rattle.house.proofs.options.wish_of.Given as goal

abbrev pub invariant-loop-word : goal.invariant-loop-word
invariant-loop-word l = Good l.limits × IfSome l.file (λ name. Any (λ w. string_bytes w ≡ name.now) l.words) × All (Contains l.words) l.rest.rest.now

abbrev pub decreases-loop-word : goal.decreases-loop-word
decreases-loop-word l = length l.rest.rest.now
