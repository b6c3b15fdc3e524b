-- What the words of the command line may ask for. Assumes nothing: these are definitions.
use Rattle.std.specs.Prelude.{◌≡◌, List, IfSome, Any, String, string_bytes}
use Rattle.ledger.specs.Layout.{Good}
use Rattle.house.specs.declared.options.Wish.{Wish}
use Rattle.house.specs.declared.options.Wish.TheVariants.{Help, Serve}

-- of these words: a house that may be opened, and a file that is one of the words
abbrev pub Sane : {A : Type 0} → List (String A) → Wish → Type 0
Sane ws Help = Unit {0}
Sane ws (Serve l f) = Good l × IfSome f (λ name. Any (λ w. string_bytes w ≡ name.now) ws)
