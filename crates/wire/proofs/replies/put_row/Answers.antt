use Rattle.std.proofs.Common.{◌≡◌, ℕ, ◌∷◌, length, set, sym, refl, ap, ◌∙◌, arith, length-set}
use Rattle.std.proofs.lemmas.List.{length-map}
use Rattle.bundles.specs.Offers.{meant, all_meant}
use Rattle.bundles.specs.Rows.{held}
use Rattle.wire.specs.Bytes.{bids_bytes, put}
use Rattle.wire.proofs.Writing.{put-behind, length-bids_bytes, bids_bytes-all}
use Rattle.wire.proofs.replies.put_row.Goals as goal

pub returns : goal.returns
returns c =
    let out = c.args.out.now in
    let kind = c.from.result in
    let row = held c.args.row in
    let n : ℕ = length c.as_slice-bids.result.now in
    let many : n ≡ length (all_meant row) = ap length c.as_slice-bids.ensures ∙ sym (length-map row meant) in
    let bs = bids_bytes (all_meant c.as_slice-bids.result.now) in
    let whole = c.write_all.ensures ∙ ap (put (set (set out 0 kind) 1 n) 2) (bids_bytes-all c.as_slice-bids.result.now)
    ∙ put-behind (set out 0 kind) 1 2 n bs (omega (arith, length-set out 0 kind, c.told-out)) refl ∙ put-behind out 0 1 kind (n ∷ bs) (omega (arith, c.told-out)) refl in
    record { bytes = rw (← many, ← c.as_slice-bids.ensures, ← c.from.ensures) whole; len = omega (arith, length-bids_bytes (all_meant row)) }
