-- Bids read one after the other. Assumes nothing.
use Rattle.std.proofs.Common.{◌≡◌, ℕ, suc, ◌-◌, ◌<◌, Bool, true, false, not, ◌&&◌, eqb, ltb, List, [], ◌∷◌, ◌++◌, length, drop, sym, refl, ap, ◌∙◌, arith}
use Rattle.std.proofs.lemmas.List.{append_assoc, length_push}
use Rattle.std.proofs.lemmas.Bool.Decides.{nat_tests}
use Rattle.auction.specs.Bids.{Bid, Bids, pick}
use Rattle.reading.specs.Lines.{bid, comma, several, skip}
use Rattle.reading.specs.Reads.{Read, got, stuck, then}

-- what was read behind these bids, with them in front
abbrev pub onto : Bids → Read Bids → Read Bids
onto done (got more left) = got (done ++ more) left
onto done (stuck left) = stuck left

pub onto_none : (r : Read Bids) → onto [] r ≡ r
onto_none (got more left) = refl
onto_none (stuck left) = refl

onto_one : (done : Bids) (b : Bid) (r : Read Bids) → onto done (then r (λ more left. got (b ∷ more) left)) ≡ onto (done ++ (b ∷ [])) r
onto_one done b (got more left) = ap (λ l. got l left) (sym (append_assoc done (b ∷ []) more))
onto_one done b (stuck left) = refl

onto_pick : (done : Bids) (t : Bool) (x y : Read Bids) → onto done (pick t x y) ≡ pick t (onto done x) (onto done y)
onto_pick done true x y = refl
onto_pick done false x y = refl

-- behind these bids, one bid, and those behind it if another may follow
pub list_next : (done : Bids) (bs : List ℕ) → length done < 255 → onto done (several (255 - length done) bs) ≡ then (bid bs) (λ b left. pick (comma (skip left) && not (eqb (length (done ++ (b ∷ []))) 255)) (onto (done ++ (b ∷ [])) (several (255 - length (done ++ (b ∷ []))) (skip (drop 1 (skip left))))) (got (done ++ (b ∷ [])) (skip left)))
unfolding several
list_next done bs few = let next : 255 - length done ≡ suc (254 - length done) = omega arith in ap (λ k. onto done (several k bs)) next ∙ go (bid bs)
  where
    room : (b : Bid) → ltb 0 (254 - length done) ≡ not (eqb (length (done ++ (b ∷ []))) 255)
    room b = let one = length_push done b in grind (arith, nat_tests)

    left_over : (b : Bid) → 254 - length done ≡ 255 - length (done ++ (b ∷ []))
    left_over b = omega (arith, length_push done b)

    go : (r : Read Bid) → onto done (then r (λ b left. pick (comma (skip left) && ltb 0 (254 - length done)) (then (several (254 - length done) (skip (drop 1 (skip left)))) (λ more behind. got (b ∷ more) behind)) (got (b ∷ []) (skip left)))) ≡ then r (λ b left. pick (comma (skip left) && not (eqb (length (done ++ (b ∷ []))) 255)) (onto (done ++ (b ∷ [])) (several (255 - length (done ++ (b ∷ []))) (skip (drop 1 (skip left))))) (got (done ++ (b ∷ [])) (skip left)))
    go (stuck left) = refl
    go (got b left) = rw (onto_pick, room b, onto_one done b _, left_over b) refl

pub ruleset list_steps = (onto_none, list_next)
