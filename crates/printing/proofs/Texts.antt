-- Sets and bids as text, one piece or bid more at a time. Assumes nothing.
use Rattle.std.proofs.Common.{◌≡◌, ℕ, suc, ◌+◌, ◌<◌, ◌≤◌, false, List, [], ◌∷◌, ◌++◌, length, get_or, take, drop, decimal, sym, refl, ap, ◌∙◌, append_assoc, append-nil, add-zero, arith}
use Rattle.std.proofs.lemmas.List.{drop_all, drop_more, take_more, length-map, length-take-le}
use Rattle.auction.specs.Bids.{Some, pick}
use Rattle.auction.specs.House.{list}
use Rattle.std.specs.Fmt.{IsPlainFormatter, HasWritten, formatter_writer}
use Rattle.std.specs.declared.fmt.Formatter.{Formatter}
use Rattle.std.proofs.Output.{has_written_of_eq, has_written_append, writes_in_calls_nil}
use Rattle.bundles.specs.Offers.{meant, all_meant}
use Rattle.bundles.specs.declared.Bid.{Bid}
use Rattle.printing.specs.Lines.{digit, set_text, bid_text, bids_after, bids_text, answer_text}

set_text-append : (i : ℕ) (xs ys : Some) → set_text i (xs ++ ys) ≡ set_text i xs ++ set_text (i + length xs) ys
unfolding set_text
set_text-append i [] ys = rw add-zero
set_text-append i (x ∷ xs) ys =
    let next : suc i + length xs ≡ i + suc (length xs) = omega arith in
    rw (set_text-append (suc i) xs ys, next, append_assoc)

-- one piece more
pub set_text-more : (xs : Some) (i : ℕ) → i < length xs → set_text 0 (take i xs) ++ pick (get_or xs i false) (digit i ∷ []) [] ≡ set_text 0 (take (i + 1) xs)
unfolding set_text
set_text-more xs i h =
    let long : 0 + length (take i xs) ≡ i = omega (arith, length-take-le i xs (omega arith)) in
    sym (ap (set_text 0) (take_more xs i false h) ∙ set_text-append 0 (take i xs) (get_or xs i false ∷ []) ∙ rw (long, append-nil))

-- what was written of a row of bids, from which on the rest gives the whole text
pub record Sofar {W : Type 0} (took : W → List ℕ → W → Type 0) (from to : Formatter W) (sep : List ℕ) (bids : List Bid) (i : ℕ) : Type 0 where
  pub text : List ℕ
  pub whole : text ++ bids_after sep (all_meant (drop i bids)) ≡ bids_text (all_meant bids)
  pub put : IsPlainFormatter from → HasWritten took from text to

module _ {W : Type 0} (took : W → List ℕ → W → Type 0) where
  pub none_yet : (f : Formatter W) (bids : List Bid) → Sofar took f f [] bids 0
  none_yet f bids = record { text = []; whole = refl; put = λ plain. record { wrote = writes_in_calls_nil took (formatter_writer f); plain = plain } }

  pub one_more : (f g h : Formatter W) (sep : List ℕ) (bids : List Bid) (i : ℕ) (d : Bid) → i < length bids → Sofar took f g sep bids i → (IsPlainFormatter g → HasWritten took g (sep ++ (32 ∷ bid_text (meant (get_or bids i d)))) h)
      → Sofar took f h (44 ∷ []) bids (i + 1)
  unfolding bids_after
  one_more f g h sep bids i d lt s next =
      let bid = sep ++ (32 ∷ bid_text (meant (get_or bids i d))) in
      record {
        text = s.text ++ bid;
        whole = append_assoc s.text bid _ ∙ ap (λ l. s.text ++ bids_after sep (all_meant l)) (sym (drop_more bids i d lt)) ∙ s.whole;
        put = λ plain. let was = s.put plain in has_written_append took f s.text g bid h was (next was.plain);
      }

  pub all_written : (f g : Formatter W) (sep : List ℕ) (bids : List Bid) (i : ℕ) → length bids ≤ i → Sofar took f g sep bids i → IsPlainFormatter f → HasWritten took f (bids_text (all_meant bids)) g
  unfolding bids_after
  all_written f g sep bids i past s plain =
      has_written_of_eq took f _ _ g (sym (append-nil s.text) ∙ ap (λ l. s.text ++ bids_after sep (all_meant l)) (sym (drop_all i bids past)) ∙ s.whole) (s.put plain)

-- the count, and the bids behind it
pub list_text : (bids : List Bid) → (51 ∷ 32 ∷ (decimal (length bids) ++ (58 ∷ []))) ++ bids_text (all_meant bids) ≡ answer_text (list (all_meant bids))
list_text bids = rw (length-map bids meant, append_assoc)
