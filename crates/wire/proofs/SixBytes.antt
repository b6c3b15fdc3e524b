-- Bids read from bytes and written as bytes, six bytes each. Assumes nothing.
use Rattle.std.proofs.Common.{◌≡◌, ℕ, zero, suc, ◌+◌, ◌-◌, ◌*◌, ◌/◌, ◌^◌, ◌<◌, ◌≤◌, Bool, true, cond, ltb, List, [], ◌∷◌, ◌++◌, length, get_or, take, drop, sym, refl, ap, ◌∙◌, subst, ap₂, suc-add, zero-add, add-one, arith, length-drop}
use Rattle.std.proofs.lemmas.List.{append_assoc, drop-append-le, drop_at, drop-drop, length-map, length-take-le, map_push, take-append-drop, take_rest}
use Rattle.std.proofs.lemmas.Bool.{cond-true, lt-ltb, ltb-true, eqb-true, and_parts}
use Rattle.auction.specs.Bids.{Bid, Bids, no_bid}
use Rattle.bundles.specs.Masks.{bits, mask_of}
use Rattle.bundles.specs.Offers.{meant, all_meant}
use Rattle.bundles.specs.declared.Bid.{Bid as Value}
use Rattle.auction.specs.Promise.{fields_of}
use Rattle.bundles.proofs.Sets.{mask_bits, bits_mask, mask_below}
use Rattle.wire.specs.Sizes.{length-spelled}
use Rattle.wire.proofs.Spelling.{number_below, number-front, spelled-number, number_spelled, drop_bytes}
use Rattle.wire.specs.Bytes.{AllBytes, spelled, number_in, bid_in, bids_in, bids_bytes}

pub length-bids_in : (n : ℕ) (bs : List ℕ) → length (bids_in n bs) ≡ n
unfolding bids_in
length-bids_in zero bs = refl
length-bids_in (suc n) bs = ap suc (length-bids_in n (drop 6 bs))

-- the bid at place i is in the six bytes from 6 * i on
pub bid-at : (n i : ℕ) (bs : List ℕ) → i < n → get_or (bids_in n bs) i no_bid ≡ bid_in (drop (6 * i) bs)
unfolding bids_in
bid-at zero i bs h = absurd (omega arith)
bid-at (suc n) zero bs h = refl
bid-at (suc n) (suc i) bs h =
    bid-at n i (drop 6 bs) (omega arith) ∙ ap bid_in (drop-drop (6 * i) 6 bs ∙ ap (λ k. drop k bs) (omega arith))

-- a set and a price, read one after the other
pub bid-read : (at s p : ℕ) (bs : List ℕ) → s ≡ number_in 2 (drop at bs) → p ≡ number_in 4 (drop (at + 2) bs) → ◌≡◌ {A = Bid} (record { on = bits 16 s; price = p }) (bid_in (drop at bs))
bid-read at s p bs es ep = rw (es, ep, ← drop-drop 2 at bs)

-- one bid more
pub bids_in-more : (n : ℕ) (bs : List ℕ) → bids_in (n + 1) bs ≡ bids_in n bs ++ (bid_in (drop (6 * n) bs) ∷ [])
unfolding bids_in
bids_in-more n bs = rw add-one (go n bs)
  where
    go : (n : ℕ) (bs : List ℕ) → bids_in (suc n) bs ≡ bids_in n bs ++ (bid_in (drop (6 * n) bs) ∷ [])
    go zero bs = refl
    go (suc n) bs =
        let next : 6 + 6 * n ≡ 6 * suc n = omega arith in
        ap (λ l. bid_in bs ∷ l) (go n (drop 6 bs) ∙ ap (λ l. bids_in n (drop 6 bs) ++ (bid_in l ∷ [])) (drop-drop (6 * n) 6 bs ∙ ap (λ k. drop k bs) next))

-- gone through one by one: none is left, or the first and those behind it
pub left-none : (bs : List ℕ) → length bs < 6 → bids_in (length bs / 6) bs ≡ []
unfolding bids_in
left-none bs h = let none : length bs / 6 ≡ 0 = omega arith in rw none

left-more : (bs : List ℕ) → 6 ≤ length bs → bids_in (length bs / 6) bs ≡ bid_in bs ∷ bids_in (length (drop 6 bs) / 6) (drop 6 bs)
unfolding bids_in
left-more bs h =
    let many : length bs / 6 ≡ suc (length (drop 6 bs) / 6) = omega (arith, length-drop 6 bs) in rw many

pub left-next : (bs : List ℕ) (b : Bid) → 6 ≤ length bs → b ≡ bid_in bs → bids_in (length bs / 6) bs ≡ b ∷ bids_in (length (take (length bs - 6) (drop 6 bs)) / 6) (take (length bs - 6) (drop 6 bs))
left-next bs b h e = rw (take_rest bs 6, e) (left-more bs h)

-- a row that is full only once there are sixteen takes one bid more of the bytes
pub row_more : (row row' : List Value) (bid : Value) (t : Bool) (i : ℕ) (bs : List ℕ) → all_meant row ≡ bids_in i (drop 2 bs) → i < 16 → meant bid ≡ bid_in (drop (2 + 6 * i) bs)
    → row' ≡ cond t (row ++ bid ∷ []) row → t ≡ ltb (length row) 16 → all_meant row' ≡ bids_in (i + 1) (drop 2 bs)
row_more row row' bid t i bs was room is next full =
    let many : length row ≡ i = sym (length-map row meant) ∙ ap length was ∙ length-bids_in i (drop 2 bs) in
    let more : row' ≡ row ++ bid ∷ [] = next ∙ cond-true t _ _ (full ∙ lt-ltb (length row) 16 (omega arith)) in
    ap all_meant more ∙ map_push meant row bid ∙ ap₂ (λ l b. l ++ (b ∷ [])) was (is ∙ ap bid_in (sym (drop-drop (6 * i) 2 bs))) ∙ sym (bids_in-more i (drop 2 bs))

take_none : (n : ℕ) → take {A = ℕ} n [] ≡ []
take_none zero = refl
take_none (suc n) = refl

take_both : (m n : ℕ) (xs : List ℕ) → take m xs ++ take n (drop m xs) ≡ take (m + n) xs
take_both zero n xs = rw zero-add
take_both (suc m) n [] = rw (suc-add, take_none n)
take_both (suc m) n (x ∷ xs) = rw (suc-add) (ap (λ l. x ∷ l) (take_both m n xs))

-- writing the bids that were read
pub bids_back : (n : ℕ) (bs : List ℕ) → AllBytes bs → 6 * n ≤ length bs → bids_bytes (bids_in n bs) ≡ take (6 * n) bs
unfolding bids_bytes bids_in
bids_back zero bs h long = refl
bids_back (suc n) bs h long =
    let set : mask_of (bits 16 (number_in 2 bs)) ≡ number_in 2 bs = mask_bits 16 _ (number_below 2 bs h) in
    let six : 2 + (4 + 6 * n) ≡ 6 * suc n = omega arith in
    rw (set, spelled-number 2 bs h (omega arith), spelled-number 4 (drop 2 bs) (drop_bytes 2 bs h) (omega (arith, length-drop 2 bs)), bids_back n (drop 6 bs) (drop_bytes 6 bs h) (omega (arith, length-drop 6 bs)))
    (ap (λ l. take 2 bs ++ (take 4 (drop 2 bs) ++ take (6 * n) l)) (sym (drop-drop 4 2 bs)) ∙ ap (λ l. take 2 bs ++ l) (take_both 4 (6 * n) (drop 2 bs)) ∙ take_both 2 (4 + 6 * n) bs ∙ ap (λ k. take k bs) six)

-- reading the bids that were written
pub bids_forth : (bs : Bids) (more : List ℕ) → fields_of bs ≡ true → bids_in (length bs) (bids_bytes bs ++ more) ≡ bs
unfolding bids_bytes bids_in fields_of
bids_forth [] more h = refl
bids_forth (b ∷ bs) more h =
    let parts = and_parts _ _ h in
    let both = and_parts _ _ parts.0 in
    let price : number_in 4 (spelled 4 b.price ++ (bids_bytes bs ++ more)) ≡ b.price = number_spelled 4 b.price _ (ltb-true _ _ both.0) in
    let long : length b.on ≡ 16 = eqb-true _ _ both.1 in
    let mask : mask_of b.on < 65536 = subst (λ k. mask_of b.on < 2 ^ k) long (mask_below b.on) in
    let set : bits 16 (mask_of b.on) ≡ b.on = subst (λ k. bits k (mask_of b.on) ≡ b.on) long (bits_mask b.on) in
    let whole = append_assoc (spelled 2 (mask_of b.on)) (spelled 4 b.price ++ bids_bytes bs) more ∙ ap (λ l. spelled 2 (mask_of b.on) ++ l) (append_assoc (spelled 4 b.price) (bids_bytes bs) more) in
    let tail = drop_at (spelled 2 (mask_of b.on)) (spelled 4 b.price ++ (bids_bytes bs ++ more)) 2 (length-spelled 2 _) in
    let last : drop 6 (spelled 2 (mask_of b.on) ++ (spelled 4 b.price ++ (bids_bytes bs ++ more))) ≡ bids_bytes bs ++ more =
    sym (drop-drop 4 2 (spelled 2 (mask_of b.on) ++ (spelled 4 b.price ++ (bids_bytes bs ++ more)))) ∙ ap (drop 4) tail ∙ drop_at (spelled 4 b.price) _ 4 (length-spelled 4 _) in
    rw (whole, number_spelled 2 (mask_of b.on) _ mask, set, tail, price, last, bids_forth bs more parts.1)

-- what lies behind the bids is not looked at
bids-front : (n : ℕ) (xs ys : List ℕ) → 6 * n ≤ length xs → bids_in n (xs ++ ys) ≡ bids_in n xs
unfolding bids_in
bids-front zero xs ys long = refl
bids-front (suc n) xs ys long =
    let two : 2 ≤ length xs = omega arith in
    let six : 6 ≤ length xs = omega arith in
    rw (number-front 2 xs ys two, drop-append-le 2 xs ys two, number-front 4 (drop 2 xs) ys (omega (arith, length-drop 2 xs)), drop-append-le 6 xs ys six, bids-front n (drop 6 xs) ys (omega (arith, length-drop 6 xs)))

pub bids_part : (n m : ℕ) (bs : List ℕ) → m ≡ 6 * n → 6 * n ≤ length bs → bids_in (length (take m bs) / 6) (take m bs) ≡ bids_in n bs
bids_part n m bs e long =
    let many : length (take m bs) ≡ 6 * n = length-take-le m bs (omega arith) ∙ e in
    let six : 6 * n / 6 ≡ n = omega arith in
    rw (many, six) (sym (bids-front n (take m bs) (drop m bs) (omega arith)) ∙ ap (bids_in n) (take-append-drop m bs))
