-- One call on sound words: they hold the house after it, with the same limits, and are sound again. Assumes nothing.
use Rattle.std.proofs.Common.{◌≡◌, ℕ, ◌+◌, ◌<◌, ◌≤◌, true, ◌&&◌, ◌||◌, eqb, ltb, leb, ◌⊎◌, List, length, get_or, sym, refl, ◌∙◌, subst, inl, inr, arith}
use Rattle.std.proofs.lemmas.List.{length-set, get_or-set_other}
use Rattle.std.proofs.lemmas.Bool.{cases_eq, and_parts, ltb-true, leb-true, eq-eqb, ne_eqb}
use Rattle.auction.specs.Bids.{Bids}
use Rattle.auction.specs.House.{Call, opens, bids, ticks, my_bids, result, brings, lot_is, garbled, House, call_number, prices_fine, good_fields, good_call, turned_by, turned, changed, after, answer, Limits as AllLimits}
use Rattle.auction.specs.Promise.{field, readable}
use Rattle.auction.proofs.HouseLaws.{pick_zero, bids-taken, after-taken, after_refused}
use Rattle.bundles.proofs.Picks.{pick_yes, pick_no}
use Rattle.ledger.specs.Layout.{now_at, count_at, lot_at}
use Rattle.ledger.specs.Words.{with_row, writable}
use Rattle.ledger.specs.Houses.{limits_in, house_in, is_house, Sound, with_now, with_lot}
use Rattle.ledger.specs.Laws.{BidsLand, LotsLand, TimeLands}
use Rattle.ledger.proofs.Houses.{house_facts, many_lots, same_limits}
use Rattle.ledger.proofs.LedgerLaws.{bids_land, lots_land, time_lands}
use Rattle.ledger.proofs.LotDeeds.{length-with_lot, lot_below}
use Rattle.ledger.proofs.RowDeeds.{length-with_row, with_row_below}
use Rattle.ledger.proofs.RowWords.{call-writable}
use Rattle.keeper.specs.Keeping.{can_do, limits_now, turned_in, edit, next_in, says_in}

-- words that are sound, with the limits of others and as many as they
pub record Kept (m w : List ℕ) : Type 0 where
  pub sound : Sound w
  pub limits : limits_in w ≡ limits_in m
  pub len : length w ≡ length m

pub kept_same : (m : List ℕ) → Sound m → Kept m m
kept_same m s = record { sound = s; limits = refl; len = refl }

-- the words w hold the house after a call that was taken on m
abbrev Lands : List ℕ → Call → List ℕ → Type 0
Lands m c w = (house_in w ≡ changed (limits_now m) (house_in m) c) × Kept m w

-- a call that is taken has good fields, and passes the house's checks
pub good-taken : (l : AllLimits) (h : House) (c : Call) → turned l h c ≡ 0 → (good_fields l c ≡ true) × (turned_by l h c ≡ 0)
good-taken l h c e =
    let asked = pick_zero (good_call l c) _ _ e in
    ((and_parts (eqb (call_number c) 255 || l.calls_can (call_number c)) _ asked.0).1, asked.1)

-- what the checks say of the words: there is room for one lot more, and there is the row that is bid on
pub room_for_lot : (m : List ℕ) (n t : ℕ) → turned (limits_now m) (house_in m) (opens n t) ≡ 0 → get_or m count_at 0 < get_or m 0 0
room_for_lot m n t e =
    let late = pick_zero (ltb (house_in m).now t) _ _ (good-taken (limits_now m) (house_in m) (opens n t) e).1 in
    let room = pick_zero (ltb (length (house_in m).lots) (get_or m 0 0)) _ _ late.1 in
    subst (λ x. x < get_or m 0 0) (many_lots m) (ltb-true _ _ room.0)

pub record RowAsked (m : List ℕ) (k b : ℕ) (bs : Bids) : Type 0 where
  pub lot : k < get_or m count_at 0
  pub bidder : b < get_or m 1 0
  pub few : length bs ≤ get_or m 2 0
  pub fine : prices_fine bs ≡ true

pub row_asked : (m : List ℕ) (k b : ℕ) (bs : Bids) → turned (limits_now m) (house_in m) (bids k b bs) ≡ 0 → RowAsked m k b bs
row_asked m k b bs e =
    let fields = and_parts (ltb b (get_or m 1 0)) _ (good-taken (limits_now m) (house_in m) (bids k b bs) e).0 in
    let these = and_parts (leb (length bs) (get_or m 2 0)) _ fields.1 in
    record {
      lot = subst (λ x. k < x) (many_lots m) (bids-taken (limits_now m) (house_in m) k b bs e).0;
      bidder = ltb-true _ _ fields.0;
      few = leb-true _ _ these.0;
      fine = these.1;
    }

opens_land : (m : List ℕ) (n t : ℕ) → Sound m → readable (opens n t) ≡ true → turned (limits_now m) (house_in m) (opens n t) ≡ 0 → Lands m (opens n t) (edit m (opens n t))
unfolding readable LotsLand
opens_land m n t s r e =
    let k : ℕ = get_or m count_at 0 in
    let more : k < get_or m 0 0 = room_for_lot m n t e in
    let f = house_facts m s.house in
    let room : lot_at k + 1 < length m = omega (arith, f.room) in
    let fields = and_parts (field n) (field t) r in
    let landed = lots_land m n t can_do s more (ltb-true _ _ fields.0) (ltb-true _ _ fields.1) in (
      landed.0,
      record {
        sound = landed.1;
        limits = same_limits m (with_lot m k n t) (lot_below m k n t room 0 (omega arith)) (lot_below m k n t room 1 (omega arith)) (lot_below m k n t room 2 (omega arith));
        len = length-with_lot m k n t room;
      },
    )

bids_fit : (m : List ℕ) (k b : ℕ) (bs : Bids) → readable (bids k b bs) ≡ true → RowAsked m k b bs → writable bs ≡ true
unfolding readable
bids_fit m k b bs r a =
    let fields = and_parts (field k && field b) _ r in
    call-writable bs a.fine (and_parts (ltb (length bs) 256) _ fields.1).1

bids_done : (m : List ℕ) (k b : ℕ) (bs : Bids) → Sound m → readable (bids k b bs) ≡ true → turned (limits_now m) (house_in m) (bids k b bs) ≡ 0 → Lands m (bids k b bs) (edit m (bids k b bs))
unfolding BidsLand
bids_done m k b bs s r e =
    let a = row_asked m k b bs e in
    let f = house_facts m s.house in
    let there : k < get_or m 0 0 = omega (arith, f.few, a.lot) in
    let landed = bids_land m k b bs can_do s a.lot a.bidder a.few (bids_fit m k b bs r a) in
    let low : (i : ℕ) → i < 8 → get_or (with_row (limits_in m) m k b bs) i 0 ≡ get_or m i 0 =
    λ i h. with_row_below (limits_in m) m k b bs there a.bidder f.room a.few i (omega arith) in (
      landed.0,
      record {
        sound = landed.1;
        limits = same_limits m (with_row (limits_in m) m k b bs) (low 0 (omega arith)) (low 1 (omega arith)) (low 2 (omega arith));
        len = length-with_row (limits_in m) m k b bs there a.bidder f.room a.few;
      },
    )

ticks_land : (m : List ℕ) (n : ℕ) → Sound m → turned (limits_now m) (house_in m) (ticks n) ≡ 0 → Lands m (ticks n) (edit m (ticks n))
unfolding TimeLands house_in
ticks_land m n s e =
    let t : ℕ = get_or m now_at 0 + n in
    let early = pick_zero (ltb t 16777216) _ _ (good-taken (limits_now m) (house_in m) (ticks n) e).1 in
    let landed = time_lands m n can_do s (ltb-true _ _ early.0) in (
      landed.0,
      record {
        sound = landed.1;
        limits = same_limits m (with_now m t) (get_or-set_other m now_at 0 t 0 (λ z. omega arith)) (get_or-set_other m now_at 1 t 0 (λ z. omega arith)) (get_or-set_other m now_at 2 t 0 (λ z. omega arith));
        len = length-set m now_at t;
      },
    )

edit_lands : (m : List ℕ) (c : Call) → Sound m → readable c ≡ true → turned (limits_now m) (house_in m) c ≡ 0 → Lands m c (edit m c)
edit_lands m (opens n t) s r e = opens_land m n t s r e
edit_lands m (bids k b bs) s r e = bids_done m k b bs s r e
edit_lands m (ticks n) s r e = ticks_land m n s e
edit_lands m (my_bids k b) s r e = (refl, kept_same m s)
edit_lands m (result k b) s r e = (refl, kept_same m s)
edit_lands m (brings k) s r e = (refl, kept_same m s)
edit_lands m (lot_is k) s r e = (refl, kept_same m s)
edit_lands m (garbled n) s r e = (refl, kept_same m s)

-- words that are a house do what the written house does
pub turned_house : (m : List ℕ) (c : Call) → is_house m ≡ true → turned_in m c ≡ turned (limits_now m) (house_in m) c
turned_house m c e = pick_yes _ _ e

pub says_house : (m : List ℕ) (c : Call) → is_house m ≡ true → says_in m c ≡ answer (limits_now m) (house_in m) c
says_house m c e = pick_yes _ _ e

pub next-taken : (m : List ℕ) (c : Call) → turned_in m c ≡ 0 → next_in m c ≡ edit m c
next-taken m c e = pick_yes _ _ (eq-eqb (turned_in m c) 0 e)

pub next_refused : (m : List ℕ) (c : Call) → (turned_in m c ≡ 0 → ⊥) → next_in m c ≡ m
next_refused m c n = pick_no _ _ (ne_eqb (turned_in m c) 0 n)

pub next_lands : (m : List ℕ) (c : Call) → Sound m → readable c ≡ true → (house_in (next_in m c) ≡ after (limits_now m) (house_in m) c) × Kept m (next_in m c)
next_lands m c s r = go (cases_eq (turned_in m c) 0)
  where
    asked : turned_in m c ≡ turned (limits_now m) (house_in m) c
    asked = turned_house m c s.house

    go : (turned_in m c ≡ 0) ⊎ (turned_in m c ≡ 0 → ⊥) → (house_in (next_in m c) ≡ after (limits_now m) (house_in m) c) × Kept m (next_in m c)
    go (inl e) =
        let taken = sym asked ∙ e in
        let landed = edit_lands m c s r taken in
        subst (λ w. (house_in w ≡ after (limits_now m) (house_in m) c) × Kept m w) (sym (next-taken m c e)) (landed.0 ∙ sym (after-taken (limits_now m) (house_in m) c taken), landed.1)
    go (inr n) =
        subst (λ w. (house_in w ≡ after (limits_now m) (house_in m) c) × Kept m w) (sym (next_refused m c n)) (sym (after_refused (limits_now m) (house_in m) c (λ z. n (asked ∙ z))), kept_same m s)
