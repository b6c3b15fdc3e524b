-- A house is opened and every record of a row is answered as the written house does. Assumes nothing.
use Rattle.std.proofs.lemmas.Grind.{common_steps}
use Rattle.std.proofs.Common.{◌≡◌, ℕ, zero, suc, ◌+◌, ◌*◌, ◌≤◌, true, List, [], ◌∷◌, map, length, take, refl, ap, ◌∙◌, arith}
use Rattle.std.proofs.lemmas.Bool.{and_from, le-leb}
use Rattle.auction.specs.House.{House, answers, new_house}
use Rattle.auction.specs.Promise.{readable, all_readable, thin}
use Rattle.bundles.proofs.Picks.{pick_yes}
use Rattle.formats.specs.Laws.{ReadIsReadable}
use Rattle.formats.proofs.RoundTrips.{read_is_readable, take_bytes}
use Rattle.keeper.proofs.Runs.{right_from}
use Rattle.ledger.specs.Houses.{limits_of}
use Rattle.ledger.specs.Laws.{NewHouse}
use Rattle.ledger.specs.Layout.{Good, good, house_words}
use Rattle.ledger.specs.Opening.{opened, after_opening}
use Rattle.ledger.specs.declared.layout.Limits.{Limits}
use Rattle.wire.specs.Bytes.{AllBytes}
use Rattle.wire.specs.Calls.{call_in}
use Rattle.wire.proofs.Spelling.{rest_bytes}
use Rattle.daybook.specs.Records.{records_behind, calls_in, told}

-- every record is a call that can be carried
all_read : (n : ℕ) (bs : List ℕ) → AllBytes bs → all_readable (map call_in (records_behind n bs)) ≡ true
unfolding records_behind all_readable ReadIsReadable
all_read zero [] h = refl
all_read zero (a ∷ []) h = refl
all_read zero (a ∷ b ∷ bs) h =
    let rest : AllBytes bs = rest_bytes b bs (rest_bytes a (b ∷ bs) h) in
    and_from (readable (call_in (take (a + 256 * b) bs))) _ (read_is_readable (take (a + 256 * b) bs) (take_bytes (a + 256 * b) bs rest)) (all_read (a + 256 * b) bs rest)
all_read (suc n) [] h = refl
all_read (suc n) (b ∷ bs) h = all_read n bs (rest_bytes b bs h)

good_limits : (l : Limits) → Good l → good l ≡ true
good_limits l g = grind (arith, common_steps)

-- the answers are the written house's
pub as_written : (l : Limits) (m w bs : List ℕ) → Good l → house_words l ≤ length m → NewHouse l m (opened l m) → AllBytes bs → w ≡ after_opening l m →
    told w (calls_in bs) ≡ answers (limits_of thin l) new_house (calls_in bs)
as_written l m w bs g room new bytes e =
    let is : w ≡ opened l m = e ∙ pick_yes _ _ (good_limits l g) ∙ pick_yes _ _ (le-leb (house_words l) (length m) room) in
    ap (λ (x : List ℕ). told x (calls_in bs)) is
    ∙ right_from (limits_of thin l) (opened l m) (calls_in bs) refl new.sound new.limits (all_read 0 bs bytes)
    ∙ ap (λ (h : House). answers (limits_of thin l) h (calls_in bs)) new.house
