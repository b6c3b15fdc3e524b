-- A bidder whose pieces nobody else wants: what it gets among all bidders is the first of its highest bids, and it pays nothing. Assumes nothing.
use Rattle.std.proofs.Common.{◌≡◌, ℕ, false, eqb, ◌≢◌, List, [], get_or, sym, refl, ap, ◌∙◌, subst}
use lib.Bits.{and_comm}
use Rattle.std.proofs.lemmas.Bool.{eqb-true, eq-eqb, ne_eqb}
use Rattle.auction.specs.Bids.{Some, Bids, choice, pays}
use Rattle.auction.specs.Faster.{LoneBidder}
use Rattle.auction.specs.Laws.{touches, pieces_of, only, Apart, SameFor, SettledApart}
use Rattle.auction.proofs.Groups.{only_at, settled_apart}
use Rattle.auction.proofs.Lone.{lone_bidder}
use Rattle.auction.proofs.Sets.{touches-within}
use Rattle.bundles.specs.Masks.{bits}
use Rattle.bundles.specs.Rows.{Row, all_held}
use Rattle.bundles.specs.declared.Bundle.{Bundle}
use Rattle.bundles.proofs.Picks.{pick_yes, pick_no}
use Rattle.settling.specs.Alone.{alone, WantsApart}
use Rattle.settling.specs.Groups.{AllWants, want}
use Rattle.settling.proofs.Aparts.{contra}
use Rattle.settling.proofs.Members.{apart_touches, pieces_within}

module _ (rows : List Row) (ws : List Bundle) (i : ℕ) (aw : AllWants rows ws) (alone-in : WantsApart ws i) where
  no_touch : (j a b : ℕ) → j ≢ i → touches (pieces_of (all_held rows) i a) (pieces_of (all_held rows) j b) ≡ false
  no_touch j a b ne =
      touches-within _ _ (pieces_of (all_held rows) j b) (pieces_within rows ws i a aw)
      (touches-within _ _ (bits 16 (want ws i)) (pieces_within rows ws j b aw) (apart_touches 16 (want ws i) (want ws j) (and_comm (want ws i) (want ws j) ∙ alone-in.each j ne)))

  stands_apart : Apart (λ j. eqb j i) (all_held rows)
  unfolding Apart
  stands_apart = λ x y a b here there.
      let P : ℕ → Type 0 = λ k. touches (pieces_of (all_held rows) k a) (pieces_of (all_held rows) y b) ≡ false in
      subst P (sym (eqb-true x i here)) (no_touch y a b (λ e. contra there (eq-eqb y i e)))

  nobody_else : (j : ℕ) → j ≢ i → get_or (only (λ k. eqb k i) (all_held rows)) j [] ≡ []
  nobody_else j ne = only_at (λ k. eqb k i) (all_held rows) j ∙ pick_no _ _ (ne_eqb j i ne)

  just_me : get_or (only (λ k. eqb k i) (all_held rows)) i [] ≡ get_or (all_held rows) i []
  just_me = only_at (λ k. eqb k i) (all_held rows) i ∙ pick_yes _ _ (eq-eqb i i refl)

  pub lone_place : (free : Some) → alone (get_or (all_held rows) i []) free ≡ get_or (choice (all_held rows) free) i 0
  unfolding SettledApart SameFor LoneBidder
  lone_place free =
      sym (((settled_apart (λ k. eqb k i) (all_held rows) free stands_apart).1 i (eq-eqb i i refl)).0
      ∙ (lone_bidder (only (λ k. eqb k i) (all_held rows)) i free nobody_else).1
      ∙ ap (λ (bs : Bids). alone bs free) just_me)

  pub lone_pays : (free : Some) → 0 ≡ pays (all_held rows) free i
  unfolding SettledApart SameFor LoneBidder
  lone_pays free =
      sym (((settled_apart (λ k. eqb k i) (all_held rows) free stands_apart).1 i (eq-eqb i i refl)).1
      ∙ (lone_bidder (only (λ k. eqb k i) (all_held rows)) i free nobody_else).2)
