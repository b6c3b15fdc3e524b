-- Sealed bids, over what the keeper answers: its answers are the written house's, and there bids are sealed. Assumes nothing.
use Rattle.std.proofs.Common.{◌≡◌, ℕ, Bool, true, false, List, [], ◌∷◌, ◌++◌, sym, refl, ◌∙◌, ap₂}
use Rattle.std.proofs.lemmas.Bool.{and_parts, and_from}
use Rattle.auction.specs.Bids.{pick}
use Rattle.auction.specs.House.{Call, Answer, Limits, House, after, answers, new_house}
use Rattle.auction.specs.Promise.{Keeper, Memory, readable, all_readable, told_by, thin, others_on, but_others, answers_but, Right, Sealed}
use Rattle.auction.proofs.Sealed.{sealed}
use Rattle.keeper.specs.Keeping.{the_keeper}
use Rattle.keeper.specs.Promises.{told_but, SealedAnswers}
use Rattle.keeper.proofs.Runs.{right}

same_head : {A : Type 0} {x y : A} {xs ys : List A} → x ∷ xs ≡ y ∷ ys → x ≡ y
same_head e = cc

same_tail : {A : Type 0} {x y : A} {xs ys : List A} → x ∷ xs ≡ y ∷ ys → xs ≡ ys
same_tail e = cc

-- where all answers are the same, so are those that are left when some are left out
but_same : (k b : ℕ) (r : Keeper) (m : Memory) (l : Limits) (h : House) (cs : List Call) → told_by r m cs ≡ answers l h cs → told_but k b r m cs ≡ answers_but k b l h cs
unfolding told_by answers told_but answers_but
but_same k b r m l h [] e = refl
but_same k b r m l h (c ∷ cs) e =
    ap₂ (λ (a : Answer) (rest : List Answer). pick (others_on k b c) [] (a ∷ []) ++ rest) (same_head e) (but_same k b r (r.next m c) l (after l h c) cs (same_tail e))

-- calls that fields can carry are such when some are left out
readable_but : (k b : ℕ) (cs : List Call) → all_readable cs ≡ true → all_readable (but_others k b cs) ≡ true
unfolding all_readable but_others
readable_but k b [] r = refl
readable_but k b (c ∷ cs) r = let reads = and_parts (readable c) _ r in go (others_on k b c) reads.0 (readable_but k b cs reads.1)
  where
    go : (t : Bool) → readable c ≡ true → all_readable (but_others k b cs) ≡ true → all_readable (pick t (but_others k b cs) (c ∷ but_others k b cs)) ≡ true
    go true one more = more
    go false one more = and_from (readable c) _ one more

pub sealed_answers : SealedAnswers thin the_keeper
unfolding SealedAnswers Right Sealed
sealed_answers = λ l cs k b g t r open-still.
    but_same k b the_keeper (the_keeper.opened l) l new_house cs (right l cs g t r) ∙ sealed l cs k b open-still ∙ sym (right l (but_others k b cs) g t (readable_but k b cs r))
