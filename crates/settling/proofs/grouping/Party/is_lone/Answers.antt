use Rattle.std.proofs.Common.{◌≡◌, ◌≢◌, ℕ, zero, suc, ◌+◌, ◌⊎◌, Bool, true, false, not, eqb, ◌&&◌, ◌||◌, List, [], ◌∷◌, inl, inr, sym, refl, ap, ap₂, ◌∙◌, add-zero, rules, arith}
use borrow.Author.Tests.{tests}
use lib.Bits.{bit_and, and_zero_l, and_zero_r}
use Rattle.std.specs.List.{list_any, filter, enumerate_from}
use Rattle.std.proofs.lemmas.Bool.{cases_eq, eq-eqb, ne_eqb}
use Rattle.std.proofs.lemmas.Iterator.{YieldsList-from_slice}
use Rattle.std.proofs.lemmas.Iterator.Consumers.{YieldsList-at, YieldsList-from_enumerate, YieldsList-from_filter}
use Rattle.std.proofs.lemmas.Iterator.Search.{any_from_yields_List}
use Rattle.bundles.specs.declared.Bundle.{Bundle}
use Rattle.settling.specs.Groups.{want}
use Rattle.settling.proofs.Joining.{shared_is}
use Rattle.settling.proofs.grouping.Party.is_lone.Goals as goal

abbrev another : ℕ → ℕ × Bundle → Bool
another i p = not (eqb p.0 i)

abbrev wanting : ℕ → ℕ × Bundle → Bool
wanting own p = not (eqb (bit_and p.1.mask own) 0)

abbrev rivals : ℕ → ℕ → ℕ → List Bundle → Bool
rivals i own n ws = list_any (wanting own) (filter (another i) (enumerate_from n ws))

either : (b : Bool) → (b ≡ true) ⊎ (b ≡ false)
either true = inl refl
either false = inr refl

step : (i own n : ℕ) (w : Bundle) (ws : List Bundle) → rivals i own n (w ∷ ws) ≡ ((another i (n, w) && wanting own (n, w)) || rivals i own (n + 1) ws)
step i own n w ws = go (either (another i (n, w)))
  where
    go : (another i (n, w) ≡ true) ⊎ (another i (n, w) ≡ false) → rivals i own n (w ∷ ws) ≡ ((another i (n, w) && wanting own (n, w)) || rivals i own (n + 1) ws)
    go (inl e) = rw e refl
    go (inr e) = rw e refl

apart : (i own n : ℕ) (ws : List Bundle) → rivals i own n ws ≡ false → (j : ℕ) → n + j ≢ i → bit_and (want ws j) own ≡ 0
apart i own n [] none j ne = and_zero_l own
apart i own n (w ∷ ws) none zero ne = go (cases_eq (bit_and w.mask own) 0)
  where
    go : (bit_and w.mask own ≡ 0) ⊎ (bit_and w.mask own ≡ 0 → ⊥) → bit_and w.mask own ≡ 0
    go (inl e) = e
    go (inr some) =
        let first : (another i (n, w) && wanting own (n, w)) ≡ true = ap₂ (λ (a b : Bool). not a && not b) (ne_eqb n i (λ e. ne (add-zero n ∙ e))) (ne_eqb (bit_and w.mask own) 0 some) in
        let z : ◌≡◌ {A = Bool} false true = sym none ∙ step i own n w ws ∙ ap (λ (t : Bool). t || rivals i own (n + 1) ws) first in cc
apart i own n (w ∷ ws) none (suc j) ne = apart i own (n + 1) ws (later (another i (n, w) && wanting own (n, w)) _ (sym (step i own n w ws) ∙ none)) j (λ e. ne (omega (arith, e)))
  where
    later : (a b : Bool) → (a || b) ≡ false → b ≡ false
    later a b e = grind (arith, tests)

alone : (i own n : ℕ) (ws : List Bundle) → own ≡ 0 → rivals i own n ws ≡ false
alone i own n [] e = refl
alone i own n (w ∷ ws) e =
    let away : wanting own (n, w) ≡ false = ap not (eq-eqb (bit_and w.mask own) 0 (ap (bit_and w.mask) e ∙ and_zero_r w.mask)) in
    step i own n w ws ∙ ap₂ (λ (a b : Bool). a || b) (neither (another i (n, w)) _ away) (alone i own (n + 1) ws e)
  where
    neither : (a b : Bool) → b ≡ false → (a && b) ≡ false
    neither a b e = grind (arith, tests)

found : (c : goal.After-any) → c.any.result ≡ rivals c.args.bidder (want c.args.self.now.wants c.args.bidder) 0 c.args.self.now.wants
found c =
    let ws = c.args.self.now.wants in
    let i = c.args.bidder in
    let own = want ws i in
    any_from_yields_List (wanting own) _ _ c.any.result c.any.ensures.ran
    (YieldsList-from_filter _ (another i) (YieldsList-at c.filter.ensures.source (YieldsList-from_enumerate (YieldsList-from_slice ws cc) cc)) c.filter.ensures.closure (λ x r q k. search (rules, tests)))
    (λ x r q k. (search rules, shared_is _ _ (search rules)))

pub returns-clause-alone : goal.returns-clause-alone
returns-clause-alone c = λ y. record { each = λ j ne. apart c.args.bidder _ 0 c.args.self.now.wants (sym (found c) ∙ grind (arith, tests)) j (λ e. ne (omega (arith, e))) }

pub returns-clause-wanted : goal.returns-clause-wanted
returns-clause-wanted c = λ y none. let z : c.any.result ≡ false = found c ∙ alone c.args.bidder _ 0 c.args.self.now.wants none in grind (arith, tests)
