use Rattle.std.proofs.Common.{ℕ, ◌+◌, ◌*◌, ◌≤◌, List, length, get_or, sym, ap, ◌∙◌, subst, arith}
use Rattle.std.proofs.lemmas.List.{nil_from_length}
use Rattle.auction.specs.Bids.{best, with_some}
use Rattle.bundles.specs.declared.Bid.{Bid}
use Rattle.bundles.specs.Masks.{bits}
use Rattle.bundles.specs.Offers.{all_meant}
use Rattle.bundles.specs.Rows.{Row, all_held}
use Rattle.solver.proofs.Goods.{nothing}
use Rattle.ways.proofs.AllWays.{Asked, asked-none, asked_misses, asked-fits, asked-all}
use Rattle.ways.proofs.+most_from.Goals as goal
use Rattle.ways.proofs.+most_from.Goals.{then-fits, else-fits}

pub returns-in_default-clause-sum : goal.returns-in_default-clause-sum
unfolding best
returns-in_default-clause-sum t c = sym (ap (λ (rs : List Row). best (all_held rs) (bits 16 c.args.free.mask)) (nil_from_length c.args.rows.now c.in_default.ensures.cases))

pub loop-bid-init : goal.loop-bid-init
loop-bid-init t c = (asked-none _ _ _ _ c.most_from-most.ensures.sum, omega (arith, c.in-Some.ensures.cases.1))

pub loop-bid-preserved : goal.loop-bid-preserved
loop-bid-preserved t c =
    let bids = c.as_slice-bid-items.result.now in
    let i = c.loop-bid.bid-index in
    let free = bits 16 c.args.free.mask in
    let rest = best (all_held c.in-Some.others.now) in
    let asked = c.loop-bid.invariant.0 in
    let P : ℕ → Type 0 = λ m. Asked bids (i + 1) free rest m × (m ≤ length c.args.rows.now * 4294967295) in
    elim c.if-fits.branch [
      | then-fits w ↦
          let offered = ap (λ (x : ℕ). x + w.most_from-rest.result) w.from.ensures ∙ ap (λ (x : ℕ). (get_or bids i nothing).price + x) (w.most_from-rest.ensures.sum ∙ ap rest w.left_by.ensures) in
          subst P (sym (w.most-is ∙ w.max-most.ensures)) (
            asked-fits bids i free rest c.loop-bid.most (omega arith) asked (sym c.fits.ensures ∙ w.if-fits.true) _ offered,
            omega (arith, c.loop-bid.invariant.1, w.from.ensures, w.most_from-rest.ensures.small, c.in-Some.ensures.cases.1),
          )
      | else-fits w ↦ subst P (sym w.most-is) (asked_misses bids i free rest c.loop-bid.most (omega arith) asked (sym c.fits.ensures ∙ w.if-fits.false), c.loop-bid.invariant.1)
    ]

pub returns-clause-sum : goal.returns-clause-sum
unfolding best
returns-clause-sum t c =
    let free = bits 16 c.args.free.mask in
    let rest = best (all_held c.in-Some.others.now) in
    asked-all c.as_slice-bid-items.result.now c.loop-bid.bid-index free rest c.loop-bid.most (omega arith) c.loop-bid.invariant.0
    ∙ ap (λ (bs : List Bid). with_some (all_meant bs) free rest) c.as_slice-bid-items.ensures
    ∙ sym (ap (λ (rs : List Row). best (all_held rs) free) c.in-Some.ensures.cases.0)
