-- Rows of bids as words: how a row is read from the front, how it is written, and that what was written is read back. Assumes nothing.
use Rattle.std.proofs.lemmas.Grind.{common_steps}
use Rattle.std.proofs.Common.{◌≡◌, ℕ, zero, suc, ◌+◌, ◌-◌, ◌*◌, ◌/◌, ◌%◌, ◌^◌, ◌<◌, ◌≤◌, Bool, true, ◌&&◌, eqb, leb, List, [], ◌∷◌, ◌++◌, length, get_or, take, drop, set, sym, refl, ap, ◌∙◌, subst, ap₂, mod-eq_of_lt, arith}
use borrow.Rule.Slice.PartMut.{put_mid}
use Rattle.std.proofs.lemmas.List.{append_assoc, append-nil, drop-drop, drop_all, drop_more, length-append, length-map, map_more, set-append_right, length-take-le, length-drop, length-replicate, get_or-replicate}
use Rattle.std.proofs.lemmas.Bool.{and_from, and_parts, eq-eqb, ne_eqb}
use Rattle.std.specs.Simd.{first_chunks}
use Rattle.auction.specs.Bids.{Bid, Bids, pick}
use Rattle.auction.specs.House.{any, prices_fine}
use Rattle.auction.specs.Promise.{field, fields_of}
use Rattle.bundles.proofs.Picks.{pick_yes, pick_no}
use Rattle.bundles.proofs.Sets.{bits_mask, mask_below}
use Rattle.bundles.specs.Masks.{bits, mask_of}
use Rattle.bundles.specs.Offers.{meant, all_meant}
use Rattle.bundles.specs.declared.Bid.{Bid as Value}
use Rattle.ledger.proofs.Parts.{zeros_below}
use Rattle.ledger.specs.Words.{bid_of, bids_in, bid_words, row_words, row_over, writable}

-- the bids that pairs of words hold
abbrev pub bids_of_pairs : List (List ℕ) → Bids
bids_of_pairs [] = []
bids_of_pairs (w ∷ ws) = pick (eqb (get_or w 0 0) 0) [] (bid_of (get_or w 0 0) (get_or w 1 0) ∷ bids_of_pairs ws)

pub pairs_hold : (ws : List ℕ) → bids_of_pairs (first_chunks 2 (length ws / 2) ws) ≡ bids_in ws
unfolding bids_in
pairs_hold [] = refl
pairs_hold (p ∷ []) = refl
pairs_hold (p ∷ s ∷ ws) =
    let more : length (p ∷ s ∷ ws) / 2 ≡ suc (length ws / 2) = omega arith in
    ap (λ n. bids_of_pairs (first_chunks 2 n (p ∷ s ∷ ws))) more ∙ ap (λ bs. pick (eqb p 0) [] (bid_of p s ∷ bs)) (pairs_hold ws)

-- pairs are read one by one: one bid more into a row that is not full, and all once there is no more
module _ (ws : List (List ℕ)) (row : List Value) (i : ℕ) where
  pub read_all : (words : List ℕ) → ws ≡ first_chunks 2 (length words / 2) words → all_meant row ++ bids_of_pairs (drop i ws) ≡ bids_of_pairs ws
      → (i < length ws → get_or (get_or ws i []) 0 0 ≡ 0) → all_meant row ≡ bids_in words
  read_all words is inv last = grind (arith, common_steps, drop_more, pick_yes, eq-eqb, drop_all, append-nil, pairs_hold)

-- the words of bids, one after the other
pub length-bid-words : (bs : Bids) → length (bid_words bs) ≡ 2 * length bs
unfolding bid_words
length-bid-words [] = refl
length-bid-words (b ∷ bs) = omega (arith, length-bid-words bs)

pub bid-words_push : (bs : Bids) (b : Bid) → bid_words (bs ++ b ∷ []) ≡ bid_words bs ++ b.price ∷ mask_of b.on ∷ []
unfolding bid_words
bid-words_push [] b = refl
bid-words_push (x ∷ bs) b = ap (λ ws. x.price ∷ mask_of x.on ∷ ws) (bid-words_push bs b)

-- two words set at the front of what is behind some others
set_two : (xs ys : List ℕ) (at p s : ℕ) → length xs ≡ at → 1 < length ys → set (set (xs ++ ys) at p) (at + 1) s ≡ (xs ++ p ∷ s ∷ []) ++ drop 2 ys
set_two xs [] at p s e h = absurd (omega arith)
set_two xs (y ∷ []) at p s e h = absurd (omega arith)
set_two xs (y ∷ z ∷ ys) at p s e h =
    let none : at - at ≡ 0 = omega arith in
    let one : at + 1 - at ≡ 1 = omega arith in
    ap (λ ws. set ws (at + 1) s) (set-append_right xs (y ∷ z ∷ ys) at at p e (omega arith) ∙ ap (λ j. xs ++ set (y ∷ z ∷ ys) j p) none)
    ∙ set-append_right xs (p ∷ z ∷ ys) at (at + 1) s e (omega arith) ∙ ap (λ j. xs ++ set (p ∷ z ∷ ys) j s) one
    ∙ sym (append_assoc xs (p ∷ s ∷ []) ys)

-- one bid more is written behind the others
pub write_more : (ws now : List ℕ) (bids : List Value) (i at next : ℕ) (d : Value) → i < length bids → 2 * length bids ≤ length ws → at ≡ 2 * i → next ≡ 2 * (i + 1)
    → now ≡ bid_words (all_meant (take i bids)) ++ drop at ws
    → set (set now at (get_or bids i d).price) (at + 1) (mask_of (meant (get_or bids i d)).on) ≡ bid_words (all_meant (take (i + 1) bids)) ++ drop next ws
write_more ws now bids i at next d h room e e' inv =
    let some : List Value = take i bids in
    let b : Value = get_or bids i d in
    let size : length (bid_words (all_meant some)) ≡ at =
    length-bid-words (all_meant some) ∙ ap (λ n. 2 * n) (length-map some meant ∙ length-take-le i bids (omega arith)) ∙ sym e in
    let two : at + 2 ≡ next = omega arith in
    ap (λ xs. set (set xs at b.price) (at + 1) (mask_of (meant b).on)) inv
    ∙ set_two (bid_words (all_meant some)) (drop at ws) at b.price (mask_of (meant b).on) size (omega (arith, length-drop at ws))
    ∙ ap₂ (λ xs ys. xs ++ ys) (sym (bid-words_push (all_meant some) (meant b)) ∙ ap bid_words (sym (map_more meant bids i d h))) (drop-drop 2 at ws ∙ ap (λ j. drop j ws) two)

-- a part of the memory is written over
pub put_row : (m new : List ℕ) (at size from to : ℕ) (bs : Bids) → from ≡ at → to ≡ at + size → to ≤ length m → new ≡ row_words (length (take (to - from) (drop from m))) bs
    → put_mid from (to - from) m new ≡ row_over m at size bs
unfolding row_over
put_row m new at size from to bs e e' room is = grind (arith, common_steps)

-- words that are all 0 hold no bids
pub bids_zero : (ws : List ℕ) → ((i : ℕ) → i < length ws → get_or ws i 0 ≡ 0) → bids_in ws ≡ []
unfolding bids_in
bids_zero [] none = refl
bids_zero (p ∷ []) none = refl
bids_zero (p ∷ s ∷ ws) none = pick_yes _ _ (eq-eqb p 0 (none 0 (omega arith)))

-- a set of sixteen comes back from its word
set_back : (s : List Bool) → length s ≡ 16 → bits 16 (mask_of s % 65536) ≡ s
set_back s e =
    let below : mask_of s < 65536 = subst (λ n. mask_of s < 2 ^ n) e (mask_below s) in
    ap (bits 16) (mod-eq_of_lt below) ∙ ap (λ n. bits n (mask_of s)) (sym e) ∙ bits_mask s

-- what a writable bid is, and those behind it
pub record First (b : Bid) (bs : Bids) : Type 0 where
  pub price : 1 ≤ b.price
  pub word : b.price < 4294967296
  pub on : length b.on ≡ 16
  pub others : writable bs ≡ true

pub first : (b : Bid) (bs : Bids) → writable (b ∷ bs) ≡ true → First b bs
unfolding writable
first b bs e = grind (arith, common_steps)

-- bids that were written are read back
read_words : (bs : Bids) (ws : List ℕ) → writable bs ≡ true → bids_in ws ≡ [] → bids_in (bid_words bs ++ ws) ≡ bs
unfolding bids_in bid_words
read_words [] ws w none = none
read_words (b ∷ bs) ws w none =
    let f = first b bs w in
    let price = f.price in
    pick_no _ _ (ne_eqb b.price 0 (λ e. omega arith))
    ∙ ap₂ {C = Bids} (λ s xs. record { on = s; price = b.price } ∷ xs) (set_back b.on f.on) (read_words bs ws f.others none)

pub read_back : (n : ℕ) (bs : Bids) → writable bs ≡ true → bids_in (row_words n bs) ≡ bs
unfolding row_words
read_back n bs w = read_words bs _ w (bids_zero _ (λ i h. get_or-replicate (n - 2 * length bs) i 0 0 (omega (arith, length-replicate {A = ℕ} (n - 2 * length bs) 0))))

pub length-row_words : (n : ℕ) (bs : Bids) → 2 * length bs ≤ n → length (row_words n bs) ≡ n
unfolding row_words
length-row_words n bs h = grind (arith, common_steps, length-append, length-bid-words, length-replicate)

-- and each word fits
words_below : (bs : Bids) (ws : List ℕ) → writable bs ≡ true → ((i : ℕ) → get_or ws i 0 < 4294967296) → (i : ℕ) → get_or (bid_words bs ++ ws) i 0 < 4294967296
unfolding bid_words
words_below [] ws w below i = below i
words_below (b ∷ bs) ws w below zero = (first b bs w).word
words_below (b ∷ bs) ws w below (suc zero) =
    let f = first b bs w in
    let fits : mask_of b.on < 65536 = subst (λ n. mask_of b.on < 2 ^ n) f.on (mask_below b.on) in omega arith
words_below (b ∷ bs) ws w below (suc (suc i)) = words_below bs ws (first b bs w).others below i

pub row_below : (n : ℕ) (bs : Bids) → writable bs ≡ true → (i : ℕ) → get_or (row_words n bs) i 0 < 4294967296
unfolding row_words
row_below n bs w = grind (arith, common_steps, words_below, append-nil, zeros_below)

-- the bids of a call that is taken are writable
pub call-writable : (bs : Bids) → prices_fine bs ≡ true → fields_of bs ≡ true → writable bs ≡ true
unfolding prices_fine fields_of writable
call-writable [] p f = refl
call-writable (b ∷ bs) p f =
    let one = and_parts (leb 1 b.price && leb b.price 1000000000) _ p in
    let two = and_parts (field b.price && eqb (length b.on) 16) _ f in
    let word = and_parts (field b.price) _ two.0 in
    let rest = and_parts (any b.on) _ one.1 in
    and_from _ _ (and_from _ _ (and_parts (leb 1 b.price) _ one.0).0 word.0) (and_from _ _ word.1 (call-writable bs rest.1 two.1))
