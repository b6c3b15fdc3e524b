use Rattle.std.proofs.Common.{◌≡◌, ℕ, ◌-◌, ◌<◌, ◌++◌, List, Option, None, length, drop, replicate, refl, ap, ◌∙◌, subst, ap₂, append-nil, arith}
use Rattle.std.proofs.lemmas.List.{get_or_default, drop_all, length-take-le}
use Rattle.std.proofs.Math.Seq.{take-length}
use Rattle.std.specs.Borrow.{MutBor}
use Rattle.auction.specs.Bids.{Bids}
use Rattle.bundles.specs.Offers.{all_meant}
use Rattle.bundles.specs.Rows.{all_held}
use Rattle.solver.specs.Choosing.{price_of}
use Rattle.solver.specs.Paying.{Joined, nothing_taken}
use Rattle.solver.specs.Tables.{Filled}
use Rattle.solver.specs.declared.outcome.Share.{Share}
use Rattle.solver.specs.declared.outcome.Taken.{Taken}
use Rattle.solver.proofs.Bidders.{as_many, bids_there}
use Rattle.solver.proofs.Payments.{paying_none, front_small, charge_is, paying_more}
use Rattle.solver.proofs.choosing.Tables.pay_all.Goals as goal

pub loop-bidder-init : goal.loop-bidder-init
loop-bidder-init c =
    let was = c.split_at_mut-before.result.0.now in
    let S : Option Taken → ℕ → Share = λ t p. record { taken = t; paid = p } in
    let none : c.default-shares.result ≡ nothing_taken = ap₂ S c.default-shares.ensures.0 c.default-shares.ensures.1 in
    let zeros = ap (λ (xs : List ℕ). c.fill.new.self ++ xs) (drop_all (length was) was (omega arith)) ∙ append-nil c.fill.new.self ∙ c.fill.ensures.after (λ y e. e) ∙ ap (λ (xs : List ℕ). replicate (length xs) 0) (take-length was) in
    let room = length-take-le c.words_of-words.result c.split_at_mut-before.result.1.now (omega (arith, c.requires, c.words_of-words.ensures, c.split_at_mut-before.ensures.back_len)) ∙ c.words_of-words.ensures in
    paying_none _ _ _ _ _ _ _ c.default-shares.result _ (c.split_at_mut-before.ensures.front_len ∙ c.words_of-words.ensures) zeros room none refl

pub fill-requires-in-loop-bidder-clause-small : goal.fill-requires-in-loop-bidder-clause-small
fill-requires-in-loop-bidder-clause-small c =
    let few = c.args.self.now.room.few_bidders in
    rw (take-length c.loop-bidder.before.now) (front_small _ _ _ _ _ _ _ _ c.loop-bidder.invariant (omega arith))

pub loop-bidder-preserved : goal.loop-bidder-preserved
loop-bidder-preserved c =
    let this = c.args.self.now in
    let rows = this.rows.now in
    let bss = all_held rows in
    let i = c.loop-bidder.bidder in
    let before = c.loop-bidder.before.now in
    let after = c.loop-bidder.after.now in
    let made = c.fill-in-loop-bidder.new.to in
    let inv = c.loop-bidder.invariant in
    let here : i < length rows = omega arith in
    let lt : i < length bss = omega (arith, as_many rows) in
    let few : i < 32 = omega (arith, this.room.few_bidders) in
    let x : c.swap.new.x.now ≡ made ++ drop (length after) after = ap (λ (r : MutBor (List ℕ)). r.now) c.swap.ensures.x_after in
    let y : c.swap.new.y.now ≡ before = ap (λ (r : MutBor (List ℕ)). r.now) c.swap.ensures.y_after in
    let filled = x ∙ ap (λ (xs : List ℕ). made ++ xs) (drop_all (length after) after (omega arith)) ∙ append-nil made in
    let got = get_or_default c.args.taken i c.index-taken-bidder.result None (omega (arith, this.room.few_bidders)) in
    let these = ap all_meant c.as_slice.ensures ∙ bids_there rows i c.row-item.result here c.row-item.is in
    let F : List ℕ → Type 0 = λ b. Filled b made (all_meant c.as_slice.result.now) in
    let H : Bids → Type 0 = λ bs. Filled before made bs in
    let Q : Option Taken → Type 0 = λ t. c.payment.result ≡ c.join-without.result - (c.get_sum-most.result - price_of t) in
    let J : List ℕ → Type 0 = λ b. Joined b c.table-in-loop-bidder.result.now this.whole c.join-without.result in
    let most = c.get_sum-most.ensures ∙ c.table.ensures.holds.sums this.whole this.small in
    let paid = charge_is _ _ _ _ _ _ _ _ inv this.whole _ _ _ _ this.small refl c.table-in-loop-bidder.ensures.holds (subst J (take-length before) c.join-without.ensures) most (subst Q got c.payment.ensures) in
    rw (filled, y) (paying_more _ _ _ _ _ _ _ _ inv made _ lt few (subst H these (subst F (take-length before) c.fill-in-loop-bidder.ensures)) got paid)
