use Rattle.std.proofs.Common.{ℕ, ◌+◌, ◌^◌, List, length, sym, ap, ◌∙◌, subst, arith}
use Rattle.auction.specs.Bids.{Some}
use Rattle.bundles.specs.Masks.{bits}
use Rattle.bundles.specs.Rows.{Row, all_held}
use Rattle.bundles.specs.declared.Bundle.{Bundle}
use Rattle.solver.specs.Paying.{RoomToPay}
use Rattle.solver.specs.Sharing.{Shared}
use Rattle.solver.proofs.Walks.{bits-all}
use Rattle.settling.proofs.Sixteen.{all_kept_same, shared-any, shared-lot}
use Rattle.settling.specs.Packs.{places_in}
use Rattle.settling.proofs.Turns.{room_for_set}
use Rattle.settling.proofs.lots.share_lot.Goals as goal

pub share_out-requires : goal.share_out-requires
share_out-requires c =
    let R : ℕ → Type 0 = λ k. RoomToPay (length c.args.tables.now) k (length c.args.rows.now) in
    (subst R (sym c.min-counted.ensures) c.requires, (omega (arith, c.all_of-whole.ensures, c.from.ensures), all_kept_same (all_held c.args.rows.now)))

pub share-requires : goal.share-requires
share-requires c =
    let rows = c.args.rows.now in
    let party = c.in-Some.party in
    let same = c.in-Some.ensures.some in
    let n = c.min-counted.result in
    let w = c.all_of-whole.result.mask in
    let R : ℕ → List Row → Type 0 = λ k rs. RoomToPay (length c.args.tables.now) k (length rs) in
    let room = room_for_set _ n (length rows) w (omega (arith, c.all_of-whole.ensures)) (subst (λ (k : ℕ). R k rows) (sym c.min-counted.ensures) c.requires) in
    subst (R (places_in party.whole.mask)) (sym same.1) (subst (λ (b : Bundle). R (places_in b.mask) rows) (sym same.0) room)

pub returns-in-Some : goal.returns-in-Some
returns-in-Some c =
    let rows = c.args.rows.now in
    let w = c.all_of-whole.result.mask in
    let party = c.in-Some.party in
    let same = c.in-Some.ensures.some in
    let Z : List Row → ℕ → Type 0 = λ rs x. Shared (all_held rs) (bits 16 x) c.share.result in
    shared-lot rows c.args.pieces w c.share.result (c.all_of-whole.ensures ∙ ap (λ (k : ℕ). 2 ^ k) c.min-counted.ensures)
    (subst (λ (rs : List Row). Z rs w) same.1 (subst (Z party.rows.now) (ap (λ (b : Bundle). b.mask) same.0) c.share.ensures))

pub returns-in-None : goal.returns-in-None
returns-in-None c =
    let rows = c.args.rows.now in
    let n = c.min-counted.result in
    let P : Some → Type 0 = λ free. Shared (all_held rows) free c.share_out.result in
    shared-any rows c.args.pieces n c.share_out.result c.min-counted.ensures
    (subst P (bits-all n c.from.result (ap (λ (x : ℕ). x + 1) c.from.ensures ∙ c.all_of-whole.ensures)) c.share_out.ensures)
