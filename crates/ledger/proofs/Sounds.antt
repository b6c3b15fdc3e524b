-- Lots that are the same by their words, and words that are sound by their header. Assumes nothing.
use Rattle.std.proofs.lemmas.Grind.{common_steps}
use Rattle.std.proofs.Common.{arith}
use Rattle.std.proofs.Common.{◌≡◌, ℕ, ◌+◌, ◌<◌, ◌≤◌, List, length, get_or, le_trans}
use Rattle.ledger.specs.declared.layout.Limits.{Limits}
use Rattle.ledger.specs.declared.standing.Header.{Header}
use Rattle.ledger.specs.Layout.{count_at, lot_at, row_at, tables_at, house_words}
use Rattle.ledger.specs.Words.{row_part}
use Rattle.ledger.specs.Houses.{limits_in, header_in, lot_in, is_house, Sound}
use Rattle.ledger.proofs.Parts.{map_same}
use Rattle.ledger.proofs.Places.{rows_before_tables}
use Rattle.ledger.proofs.Houses.{FitsFacts, house_facts}

-- a lot is the same where its words and its rows are
pub same_lot : (l : Limits) (m w : List ℕ) (k : ℕ) → get_or w (lot_at k) 0 ≡ get_or m (lot_at k) 0 → get_or w (lot_at k + 1) 0 ≡ get_or m (lot_at k + 1) 0
    → ((b : ℕ) → b < l.bidders → row_part l w k b ≡ row_part l m k b) → lot_in l w k ≡ lot_in l m k
same_lot l m w k p t rows = grind (arith, common_steps, map_same)

-- words are sound by their header
pub sound_by : (w : List ℕ) (h : Header) → header_in w ≡ h → FitsFacts h (length w) → ((i : ℕ) → get_or w i 0 < 4294967296)
    → ((i : ℕ) → lot_at h.count ≤ i → i < lot_at h.limits.lots → get_or w i 0 ≡ 0) → ((i : ℕ) → row_at h.limits h.count 0 ≤ i → i < house_words h.limits → get_or w i 0 ≡ 0) → Sound w
unfolding is_house
sound_by w h e f below lots rest = grind (arith, common_steps)

-- the tables are clear
pub tables_clear : (m : List ℕ) → Sound m → (i : ℕ) → tables_at (limits_in m) ≤ i → i < house_words (limits_in m) → get_or m i 0 ≡ 0
tables_clear m s i from to =
    let l = limits_in m in
    let f = house_facts m s.house in
    s.rest i (le_trans (rows_before_tables l (get_or m count_at 0) f.few) from) to
