use Rattle.std.proofs.Common.{◌≡◌, ℕ, ◌+◌, ◌<◌, [], List, Option, length, get_or, replicate, sym, ◌∙◌, ap₂, subst, arith}
use Rattle.auction.specs.Bids.{Bids}
use Rattle.bundles.specs.Masks.{bits}
use Rattle.bundles.specs.Rows.{all_held}
use Rattle.bundles.specs.declared.Bundle.{Bundle}
use Rattle.solver.specs.Choosing.{IsTaken}
use Rattle.solver.specs.Paying.{RoomToPay, nothing_taken}
use Rattle.solver.specs.declared.outcome.Share.{Share}
use Rattle.solver.specs.declared.outcome.Taken.{Taken}
use Rattle.solver.proofs.Bidders.{bids_there}
use Rattle.settling.specs.Alone.{alone}
use Rattle.settling.specs.Groups.{want}
use Rattle.settling.specs.Packs.{places_in}
use Rattle.settling.proofs.Joining.{joined_is, shared_is}
use Rattle.settling.proofs.Lones.{lone_place, lone_pays}
use Rattle.settling.proofs.Turns.{Turning, room_for_group, turning_none, turning_alone, turning_group, turning_past}
use Rattle.settling.proofs.grouping.Party.share.Goals as goal
use Rattle.settling.proofs.grouping.Party.share.Goals.{then-is_lone, else-is_lone+then-not-shares, else-is_lone+else-not-shares}

pub loop-bidder-init : goal.loop-bidder-init
loop-bidder-init c =
    let p = c.args.self.now in
    let none : c.default-shares.result ≡ nothing_taken = ap₂ (λ (t : Option Taken) (n : ℕ). record { taken = t; paid = n }) c.default-shares.ensures.0 c.default-shares.ensures.1 in
    let T : Share → ℕ → Type 0 = λ d done. Turning p.rows.now p.wants (bits 16 p.whole.mask) (replicate 32 d) 0 done in
    subst (T c.default-shares.result) (sym c.default-done.ensures) (subst (λ (d : Share). T d 0) (sym none) (turning_none p.rows.now p.wants (bits 16 p.whole.mask)))

pub share_group-of_group-requires-clause-room : goal.share_group-of_group-requires-clause-room
share_group-of_group-requires-clause-room c =
    let p = c.args.self.now in
    let R : ℕ → Type 0 = λ len. RoomToPay len (places_in p.whole.mask) (length p.rows.now) in
    let same : length c.args.tables.now ≡ length c.loop-bidder.tables = omega arith in
    room_for_group _ (length p.rows.now) c.group_of-group.result.mask p.whole.mask c.group_of-group.ensures.within (subst R same c.requires)

pub loop-bidder-preserved : goal.loop-bidder-preserved
loop-bidder-preserved c =
    let p = c.args.self.now in
    let rows = p.rows.now in
    let ws = p.wants in
    let free = bits 16 p.whole.mask in
    let i = c.loop-bidder.bidder in
    let ss = c.loop-bidder.shares in
    let done = c.loop-bidder.done.mask in
    let lt : i < length rows = omega arith in
    let these = bids_there rows i c.row-item.result lt c.row-item.is in
    let T : List Share → Bundle → Type 0 = λ xs b. Turning rows ws free xs (i + 1) b.mask in
    let U : List Share → ℕ → Type 0 = λ xs n. Turning rows ws free xs (i + 1) n in
    elim c.if-is_lone.branch [
      | then-is_lone w ↦
          let apart = c.is_lone.ensures.alone w.if-is_lone.true in
          let B : Bids → Type 0 = λ bs. IsTaken bs (alone bs free) w.best_alone.result in
          let N : ℕ → Type 0 = λ n. IsTaken (get_or (all_held rows) i []) n w.best_alone.result in
          let got = subst N (lone_place rows ws i p.known apart free) (subst B these w.best_alone.ensures) in
          subst (λ (xs : List Share). T xs c.if-is_lone.done) (sym w.shares-is) (subst (T _) (sym w.done-is)
          (turning_alone rows ws free ss i done lt p.few c.loop-bidder.invariant (record { taken = w.best_alone.result; paid = 0 }) (record { taken = got; paid = lone_pays rows ws i p.known apart free })))
      | else-is_lone+then-not-shares w ↦
          let m = w.group_of-group.result.mask in
          subst (λ (xs : List Share). T xs c.if-is_lone.done) (sym w.shares-is) (subst (T _) (sym w.done-is) (subst (U _) (sym (joined_is done m w.joined-done.result.mask w.joined-done.ensures))
          (turning_group rows ws free ss i done lt p.few c.loop-bidder.invariant m p.whole.mask w.put_group.new.shares w.put_group.array_long (c.is_lone.ensures.wanted w.if-is_lone.false) w.group_of-group.ensures (w.put_group.ensures free w.share_group-of_group.ensures))))
      | else-is_lone+else-not-shares w ↦
          subst (λ (xs : List Share). T xs c.if-is_lone.done) (sym w.shares-is) (subst (T _) (sym w.done-is)
          (turning_past rows ws free ss i done lt p.few c.loop-bidder.invariant (sym (shared_is (want ws i) done w.shares.ensures) ∙ w.if-not-shares.false)))
    ]
