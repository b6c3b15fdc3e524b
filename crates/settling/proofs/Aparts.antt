-- Shares written bidder by bidder and group by group. Assumes nothing.
use Rattle.std.proofs.Common.{◌≡◌, ℕ, ◌+◌, ◌<◌, ◌≤◌, Bool, true, false, ◌≢◌, ◌⊎◌, Option, List, [], length, get_or, set, sym, ap, ◌∙◌, subst, inl, inr, arith}
use Rattle.std.proofs.lemmas.List.{get_or-set_same, get_or-set_other, length-map}
use Rattle.std.proofs.lemmas.Bool.{cases_eq}
use Rattle.auction.specs.Bids.{Some, Bids}
use Rattle.auction.proofs.Choice.{choice_bound}
use Rattle.bundles.specs.Offers.{meant, all_meant}
use Rattle.bundles.specs.Rows.{Row, held, all_held}
use Rattle.bundles.specs.declared.Bundle.{Bundle}
use Rattle.solver.specs.Choosing.{IsTaken, number_of}
use Rattle.solver.specs.Paying.{nothing_taken}
use Rattle.solver.specs.Sharing.{RightShare}
use Rattle.solver.specs.declared.outcome.Share.{Share}
use Rattle.solver.specs.declared.outcome.Taken.{Taken}
use Rattle.solver.proofs.Bidders.{bids_there}
use Rattle.settling.specs.Groups.{member, GroupShares}

-- a bidder's share
abbrev pub share_of : List Share → ℕ → Share
share_of ss j = get_or ss j nothing_taken

-- no test is both
pub contra : {A : Type 0} {b : Bool} → b ≡ false → b ≡ true → A
contra x y = let z : ◌≡◌ {A = Bool} false true = sym x ∙ y in cc

-- one share more is right, of one list or another
pub set_right : (bss : List Bids) (free : Some) (ss : List Share) (i : ℕ) (s : Share) → i < length ss → RightShare bss free i s → (j : ℕ) → (j ≢ i → RightShare bss free j (share_of ss j)) → RightShare bss free j (share_of (set ss i s) j)
set_right bss free ss i s lt right j others = go (cases_eq j i)
  where
    go : (j ≡ i) ⊎ (j ≡ i → ⊥) → RightShare bss free j (share_of (set ss i s) j)
    go (inl e) = let P : ℕ → Type 0 = λ k. RightShare bss free k (share_of (set ss i s) k) in let Q : Share → Type 0 = λ x. RightShare bss free i x in subst P (sym e) (subst Q (sym (get_or-set_same ss i s nothing_taken lt)) right)
    go (inr ne) = let Q : Share → Type 0 = λ x. RightShare bss free j x in subst Q (sym (get_or-set_other ss i j s nothing_taken ne)) (others ne)

-- so far the members below this one have their shares
pub record Placing (rows : List Row) (ws : List Bundle) (m : ℕ) (of_group ss rs : List Share) (i : ℕ) : Type 0 where
  pub members : (free : Some) → GroupShares rows ws m free of_group → (j : ℕ) → j < i → member ws m j ≡ true → RightShare (all_held rows) free j (share_of rs j)
  pub others : (j : ℕ) → (i ≤ j) ⊎ (member ws m j ≡ false) → share_of rs j ≡ share_of ss j

module _ (rows : List Row) (ws : List Bundle) (m : ℕ) (of_group ss rs : List Share) (i : ℕ) (p : Placing rows ws m of_group ss rs i) where
  pub placing_past : member ws m i ≡ false → Placing rows ws m of_group ss rs (i + 1)
  placing_past away = record { members = λ free g j h y. at free g j h y (cases_eq j i); others = λ j h. off j h }
    where
      at : (free : Some) → GroupShares rows ws m free of_group → (j : ℕ) → j < i + 1 → member ws m j ≡ true → (j ≡ i) ⊎ (j ≡ i → ⊥) → RightShare (all_held rows) free j (share_of rs j)
      at free g j h y (inl e) = contra away (sym (ap (member ws m) e) ∙ y)
      at free g j h y (inr ne) = p.members free g j (omega arith) y

      off : (j : ℕ) → (i + 1 ≤ j) ⊎ (member ws m j ≡ false) → share_of rs j ≡ share_of ss j
      off j (inl far) = p.others j (inl (omega arith))
      off j (inr out) = p.others j (inr out)

  pub placing_more : (row : Row) (was : Share) (got : Option Taken) → i < length rows → i < length rs → member ws m i ≡ true → row ≡ get_or rows i row → was ≡ share_of of_group i →
      (number_of was.taken ≤ length (held row) → IsTaken (all_meant (held row)) (number_of was.taken) got) → Placing rows ws m of_group ss (set rs i (record { taken = got; paid = was.paid })) (i + 1)
  placing_more row was got lt there mine row-is was-is own =
      record {
        members = λ free g j h y. set_right (all_held rows) free rs i s there (right free g) j (λ ne. p.members free g j (omega arith) y);
        others = λ j h. get_or-set_other rs i j s nothing_taken (apart j h) ∙ before j h;
      }
    where
      s : Share
      s = record { taken = got; paid = was.paid }

      right : (free : Some) → GroupShares rows ws m free of_group → RightShare (all_held rows) free i s
      right free g =
          let place = ap (λ (x : Share). number_of x.taken) was-is ∙ g.place i lt mine in
          let these = bids_there rows i row lt row-is in
          let few : number_of was.taken ≤ length (held row) = omega (arith, place, choice_bound (all_held rows) i free, ap length these, length-map (held row) meant) in
          let B : Bids → Type 0 = λ bs. IsTaken bs (number_of was.taken) got in
          let N : ℕ → Type 0 = λ n. IsTaken (get_or (all_held rows) i []) n got in
          record { taken = subst N place (subst B these (own few)); paid = ap (λ (x : Share). x.paid) was-is ∙ g.paid i lt mine }

      apart : (j : ℕ) → (i + 1 ≤ j) ⊎ (member ws m j ≡ false) → j ≢ i
      apart j (inl far) = λ e. omega arith
      apart j (inr out) = λ e. contra out (ap (member ws m) e ∙ mine)

      before : (j : ℕ) → (i + 1 ≤ j) ⊎ (member ws m j ≡ false) → share_of rs j ≡ share_of ss j
      before j (inl far) = p.others j (inl (omega arith))
      before j (inr out) = p.others j (inr out)
