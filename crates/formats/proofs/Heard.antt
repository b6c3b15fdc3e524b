-- Answers as bytes: reading gives back what was written. Assumes nothing.
use Rattle.std.proofs.Common.{◌≡◌, ℕ, suc, ◌+◌, ◌*◌, ◌<◌, ◌≤◌, true, ◌&&◌, ltb, leb, List, [], ◌∷◌, ◌++◌, length, get_or, drop, sym, ap, ◌∙◌, arith}
use Rattle.std.proofs.lemmas.List.{append-nil}
use Rattle.std.proofs.lemmas.Bool.{and_parts, eq-eqb, leb-true, ltb-true, ne_eqb}
use Rattle.auction.specs.Bids.{Bids}
use Rattle.auction.specs.House.{Answer, refused, number, two, list}
use Rattle.bundles.proofs.Picks.{pick_yes, pick_no}
use Rattle.wire.specs.Answers.{heard, answer_bytes, answer_in, answer_of, answer_size, length_by}
use Rattle.wire.specs.Bytes.{spelled, number_in, bids_in, bids_bytes}
use Rattle.formats.specs.Laws.{carried, AnswersComeBack, AnswersFit}
use Rattle.formats.proofs.RoundTrips.{first_field, second-field, length_two}
use Rattle.wire.proofs.SixBytes.{bids_forth}
use Rattle.wire.specs.Sizes.{length-spelled}
use Rattle.wire.proofs.Spelling.{number_spelled}
use Rattle.wire.proofs.Writing.{length-bids_bytes}

whole-answer : (k : ℕ) (bs : List ℕ) → suc (length bs) ≡ length_by k (get_or bs 0 0) → answer_in (k ∷ bs) ≡ answer_of k (k ∷ bs)
whole-answer k bs e =
    let size : answer_size (k ∷ bs) ≡ length_by k (get_or bs 0 0) = pick_no 1 (length_by k (get_or bs 0 0)) (ne_eqb (suc (length bs)) 0 (λ z. omega arith)) in
    pick_yes _ _ (eq-eqb (suc (length bs)) (answer_size (k ∷ bs)) (e ∙ sym size))

module _ (a b : ℕ) (small : a < 18446744073709551616) (low : b < 18446744073709551616) where
  pair_first : number_in 8 (spelled 8 a ++ spelled 8 b) ≡ a
  pair_first = ap (λ l. number_in 8 (spelled 8 a ++ l)) (sym (append-nil (spelled 8 b))) ∙ first_field 8 a b [] small low

  pair_second : number_in 8 (drop 8 (spelled 8 a ++ spelled 8 b)) ≡ b
  pair_second = ap (λ l. number_in 8 (drop 8 (spelled 8 a ++ l))) (sym (append-nil (spelled 8 b))) ∙ second-field 8 a b [] small low

list_back : (bs : Bids) → carried (list bs) ≡ true → answer_in (answer_bytes (list bs)) ≡ heard (list bs)
list_back bs c =
    let parts = and_parts _ _ c in
    let few = parts.0 in
    whole-answer 3 (length bs ∷ bids_bytes bs) (ap (λ n. suc (suc n)) (length-bids_bytes bs) ∙ omega arith ∙ sym (pick_yes (2 + 6 * length bs) 1 few))
    ∙ ap (λ l. heard (list l)) (ap (bids_in (length bs)) (sym (append-nil (bids_bytes bs))) ∙ bids_forth bs [] parts.1)

pub answers_come_back : AnswersComeBack
unfolding AnswersComeBack
answers_come_back = go
  where
    go : (a : Answer) → carried a ≡ true → answer_in (answer_bytes a) ≡ heard a
    go (refused n p) c =
        let parts = and_parts (leb 1 n && leb n 8) (ltb p 18446744073709551616) c in
        let range = and_parts (leb 1 n) (leb n 8) parts.0 in
        let small : n < 18446744073709551616 = omega (arith, leb-true n 8 range.1) in
        let low = ltb-true p 18446744073709551616 parts.1 in
        whole-answer 0 (spelled 8 n ++ spelled 8 p) (ap suc (length_two 8 n p)) ∙ rw (pair_first n p small low, pair_second n p small low, parts.0)
    go (number n) c =
        whole-answer 1 (spelled 8 n) (ap suc (length-spelled 8 n))
        ∙ ap (λ k. heard (number k)) (ap (number_in 8) (sym (append-nil (spelled 8 n))) ∙ number_spelled 8 n [] (ltb-true n 18446744073709551616 c))
    go (two a b) c =
        let parts = and_parts _ _ c in
        let small = ltb-true a 18446744073709551616 parts.0 in
        let low = ltb-true b 18446744073709551616 parts.1 in
        whole-answer 2 (spelled 8 a ++ spelled 8 b) (ap suc (length_two 8 a b)) ∙ rw (pair_first a b small low, pair_second a b small low)
    go (list bs) c = list_back bs c

pub answers_fit : AnswersFit
unfolding AnswersFit
answers_fit = go
  where
    go : (a : Answer) → carried a ≡ true → length (answer_bytes a) ≤ 256
    go (refused n p) c = omega (arith, length_two 8 n p)
    go (number n) c = omega (arith, length-spelled 8 n)
    go (two a b) c = omega (arith, length_two 8 a b)
    go (list bs) c = omega (arith, length-bids_bytes bs, leb-true (length bs) 16 (and_parts _ _ c).0)
