-- The time is set: what that does to the house that the words hold, and that it leaves them sound. Assumes nothing.
use Rattle.std.proofs.lemmas.Grind.{common_steps}
use Rattle.std.proofs.Common.{◌≡◌, ℕ, ◌+◌, ◌<◌, true, ◌≢◌, List, length, get_or, sym, ap, ◌∙◌, subst, ⊎_elim, arith}
use Rattle.std.proofs.lemmas.List.{length-set, get_or-set_same, get_or-set_other}
use Rattle.std.proofs.lemmas.Bool.{cases_eq}
use Rattle.auction.specs.House.{House}
use Rattle.ledger.specs.Layout.{now_at, count_at, lot_at, row_at, row_size}
use Rattle.ledger.specs.Houses.{limits_in, header_in, lot_in, house_in, is_house, Sound, with_now}
use Rattle.ledger.proofs.Parts.{same_part, map_same}
use Rattle.ledger.proofs.Houses.{FitsFacts, house_facts, same_header, house_by}
use Rattle.ledger.proofs.Sounds.{same_lot, sound_by}

-- the time is set
module _ (m : List ℕ) (t : ℕ) (house : is_house m ≡ true) where
  now_facts : FitsFacts (header_in m) (length m)
  now_facts = house_facts m house

  now_other : (i : ℕ) → i ≢ now_at → get_or (with_now m t) i 0 ≡ get_or m i 0
  now_other i ne = get_or-set_other m now_at i t 0 ne

  now_itself : get_or (with_now m t) now_at 0 ≡ t
  now_itself = get_or-set_same m now_at t 0 (omega (arith, now_facts.room))

  now_limits : limits_in (with_now m t) ≡ limits_in m
  now_limits = grind (arith, common_steps)

  pub now_house : house_in (with_now m t) ≡ record { now = t; lots = (house_in m).lots }
  unfolding house_in
  now_house =
      let l = limits_in m in
      let v : List ℕ = with_now m t in
      house_by v l t (get_or m count_at 0) now_limits now_itself (now_other count_at (λ e. omega arith))
      ∙ ap {B = House} (λ x. record { now = t; lots = x })
      (map_same (lot_in l m) (lot_in l v) (get_or m count_at 0)
      (λ k h. same_lot l m v k (now_other (lot_at k) (λ e. omega arith)) (now_other (lot_at k + 1) (λ e. omega arith))
      (λ b hb. same_part v m (row_at l k b) (row_size l) (length-set m now_at t) (λ i from to. now_other i (λ e. omega arith)))))

  pub now_sound : t < 16777216 → Sound m → Sound (with_now m t)
  now_sound early s =
      let l = limits_in m in
      let v : List ℕ = with_now m t in
      sound_by v (record { limits = l; now = t; count = get_or m count_at 0 }) (same_header m v t (get_or m count_at 0) now_limits now_itself (now_other count_at (λ e. omega arith)))
      (subst (FitsFacts _) (sym (length-set m now_at t)) (record { good = now_facts.good; room = now_facts.room; few = now_facts.few; early = early }))
      (λ i. ⊎_elim (λ e. subst (λ x. x < 4294967296) (sym (ap (λ j. get_or v j 0) e ∙ now_itself)) (omega arith))
      (λ ne. subst (λ x. x < 4294967296) (sym (now_other i ne)) (s.words i)) (cases_eq i now_at))
      (λ i from to. now_other i (λ e. omega arith) ∙ s.lots i from to)
      (λ i from to. now_other i (λ e. omega arith) ∙ s.rest i from to)
