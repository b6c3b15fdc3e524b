use Rattle.std.proofs.Common.{ℕ, get_or, take, sym, ap, ◌∙◌, rules}
use lib.Bits.{bit_or}
use Rattle.std.proofs.lemmas.List.{take_more}
use Rattle.settling.specs.Groups.{wants}
use Rattle.solver.proofs.Goods.{nothing}
use Rattle.settling.proofs.Joining.{wants-more, wants-none, joined_is}
use Rattle.settling.proofs.grouping.wants_of.Goals as goal

pub loop-bid-init : goal.loop-bid-init
loop-bid-init c = c.default-pieces.ensures ∙ sym wants-none

pub loop-bid-preserved : goal.loop-bid-preserved
loop-bid-preserved c =
    let bids = c.as_slice-bid-items.result.now in
    let i = c.loop-bid.bid-index in
    let on = (get_or bids i nothing).on.mask in
    joined_is c.loop-bid.pieces.mask on c.joined-pieces.result.mask c.joined-pieces.ensures
    ∙ ap (λ (x : ℕ). bit_or x on) c.loop-bid.invariant ∙ sym (wants-more (take i bids) (get_or bids i nothing)) ∙ ap wants (sym (take_more bids i nothing (search rules)))
