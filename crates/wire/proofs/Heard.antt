-- Answers as bytes: what reading makes of them. Assumes nothing.
use Rattle.std.proofs.Common.{◌≡◌, ℕ, ◌+◌, ◌-◌, ◌*◌, ◌/◌, ◌≤◌, min, List, length, get_or, take, drop, arith, length-drop}
use Rattle.std.proofs.lemmas.List.{get_or_past, take_rest}
use Rattle.std.proofs.lemmas.Bool.Decides.{nat_tests}
use Rattle.wire.specs.Answers.{length_by}
use Rattle.wire.specs.Bytes.{bids_in}
use Rattle.wire.proofs.SixBytes.{length-bids_in}

-- a whole answer of the last kind has as many bids behind its count as the count says, and not too many
module _ (bs : List ℕ) (whole : length bs ≡ length_by 3 (get_or bs 1 0)) where
  pub row_room : (2 + 6 * get_or bs 1 0 ≡ length bs) × (get_or bs 1 0 ≤ 16)
  row_room = let end : length bs ≤ 1 → get_or bs 1 0 ≡ 0 = get_or_past bs 1 0 in (grind (arith, nat_tests), grind (arith, nat_tests))

  many : min (length (take (length bs - 2) (drop 2 bs)) / 6) 255 ≡ get_or bs 1 0
  many = rw (take_rest bs 2) (omega (arith, length-drop 2 bs, row_room.0, row_room.1))

  pub row_few : length (bids_in (min (length (take (length bs - 2) (drop 2 bs)) / 6) 255) (take (length bs - 2) (drop 2 bs))) ≤ 16
  row_few = omega (arith, length-bids_in (min (length (take (length bs - 2) (drop 2 bs)) / 6) 255) (take (length bs - 2) (drop 2 bs)), many, row_room.1)
