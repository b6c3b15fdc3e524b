use Rattle.std.proofs.Common.{◌≡◌, ℕ, ◌^◌, ◌<◌, [], List, length, map, sym, ap, ◌∙◌, subst, arith}
use Rattle.std.specs.List.{range_with_len}
use Rattle.std.proofs.lemmas.List.{get_or-map}
use Rattle.auction.specs.Bids.{Bids, pick}
use Rattle.bundles.specs.Masks.{bits}
use Rattle.bundles.specs.Offers.{all_meant}
use Rattle.bundles.specs.Rows.{Row, held, all_held}
use Rattle.bundles.specs.declared.Bid.{Bid}
use Rattle.solver.specs.Paying.{RoomToPay}
use Rattle.solver.specs.Sharing.{AllKept, Shared}
use Rattle.settling.specs.Groups.{bids_as_member, group_bids, member}
use Rattle.settling.specs.Packs.{packed_bids, places_in}
use Rattle.settling.proofs.Gathered.{gathered_more, gathered_all}
use Rattle.settling.proofs.Members.{part_small, group_shared}
use Rattle.settling.proofs.grouping.Party.share_group.Goals as goal

pub loop-bidder-preserved : goal.loop-bidder-preserved
loop-bidder-preserved c =
    let p = c.args.self.now in
    let m = c.args.group.mask in
    let i = c.loop-bidder.bidder in
    let here : i < length p.rows.now = omega arith in
    let same = ap held c.row-item.is ∙ sym (get_or-map held p.rows.now i c.row-item.result [] here) in
    let is = c.member_row-member.ensures ∙ ap (λ (bs : List Bid). pick (member p.wants m i) (all_meant (packed_bids m bs)) []) same in
    rw (c.add.ensures, c.add-in-loop-bidder.ensures) (gathered_more _ _ _ _ c.loop-bidder.invariant _ _ is c.matter.ensures)

pub share_out-requires : goal.share_out-requires
share_out-requires c =
    let m = c.args.group.mask in
    let all : c.loop-bidder.bidder ≡ length c.args.self.now.rows.now = omega arith in
    let R : ℕ → ℕ → Type 0 = λ k b. RoomToPay (length c.args.tables.now) k b in
    let S : ℕ → ℕ → Type 0 = λ x k. x < 2 ^ k in
    let A : List Row → List Row → Type 0 = λ ks ms. AllKept (all_held ks) (all_held ms) in
    let long = ap length c.as_slice.ensures ∙ c.loop-bidder.invariant.long ∙ all in (
      subst (λ (k : ℕ). R k (length c.as_slice.result.now)) (sym c.how_many.ensures) (subst (R (places_in m)) (sym long) c.requires.room),
      (
        subst (S c.from.result) (sym c.how_many.ensures) (subst (λ (x : ℕ). S x (places_in m)) (sym (c.from.ensures ∙ c.pack.ensures)) (part_small m c.args.self.now.whole.mask)),
        subst (λ (ks : List Row). A ks c.as_slice.result.now) (sym c.as_slice-2.ensures) (subst (A (held c.loop-bidder.kept)) (sym c.as_slice.ensures) (gathered_all _ _ _ _ c.loop-bidder.invariant)),
      ),
    )

pub returns : goal.returns
returns c =
    let p = c.args.self.now in
    let m = c.args.group.mask in
    let rows = p.rows.now in
    let z = c.share_out.result in
    let all : c.loop-bidder.bidder ≡ length rows = omega arith in
    let bids : all_held c.as_slice.result.now ≡ group_bids p.wants m rows =
    ap all_held c.as_slice.ensures ∙ c.loop-bidder.invariant.bids ∙ ap (λ (k : ℕ). map (bids_as_member p.wants m rows) (range_with_len 0 k)) all in
    let A : List Bids → ℕ → ℕ → Type 0 = λ bss k x. Shared bss (bits k x) z in
    group_shared rows p.wants m p.known c.requires.closed p.whole.mask z
    (subst (A (group_bids p.wants m rows) (places_in m)) (c.from.ensures ∙ c.pack.ensures) (subst (λ (k : ℕ). A (group_bids p.wants m rows) k c.from.result) c.how_many.ensures (subst (λ (bss : List Bids). A bss c.how_many.result c.from.result) bids c.share_out.ensures)))
