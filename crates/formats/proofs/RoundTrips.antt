-- The laws of the formats: what is written is read back, what is read is written back, and where bytes cease to be a call. Assumes nothing.
use Rattle.std.proofs.Common.{◌≡◌, ℕ, zero, suc, ◌+◌, ◌-◌, ◌*◌, ◌^◌, ◌<◌, ◌≤◌, min, Bool, true, false, ◌&&◌, eqb, ltb, ◌⊎◌, List, [], ◌∷◌, ◌++◌, length, get_or, take, drop, replicate, sym, refl, ap, ◌∙◌, subst, ap₂, inl, inr, arith, length-append, length-drop}
use Rattle.std.proofs.lemmas.List.{append-nil, drop_at, drop-drop, drop_more, get_or_append_left, get_or-drop, get_or-take, length-replicate, length-take-le, take_all, take-append-drop}
use Rattle.std.proofs.lemmas.Bool.{false≢true, and_from, and_parts, eq-eqb, eqb-true, lt-ltb, ltb-true, ne_eqb, cases_order}
use Rattle.std.proofs.lemmas.Bool.Decides.{nat_tests}
use Rattle.auction.specs.Bids.{Bids}
use Rattle.auction.specs.House.{Call, opens, bids, ticks, my_bids, result, brings, lot_is, garbled}
use Rattle.auction.specs.Promise.{field, fields_of, readable}
use Rattle.bundles.proofs.Picks.{pick_yes, pick_no}
use Rattle.bundles.proofs.Sets.{length-bits}
use Rattle.wire.specs.Bytes.{AllBytes, spelled, number_in, bids_in, bids_bytes}
use Rattle.wire.specs.Calls.{call_bytes, call_in, call_of, call_size, size_by}
use Rattle.formats.specs.Laws.{is_call, CallsComeBack, BytesComeBack, OneRowACall, ReadIsReadable, Begins, PlaceIsLongest}
use Rattle.wire.specs.Sizes.{length-spelled}
use Rattle.wire.proofs.Spelling.{drop_bytes, number_below, number_spelled, rest_bytes, spelled-number}
use Rattle.wire.proofs.SixBytes.{bids_back, bids_forth, length-bids_in}
use Rattle.wire.proofs.Writing.{length-bids_bytes}

-- a row that is as long as it should be is the call that its first byte names
whole-call : (k : ℕ) (bs : List ℕ) → suc (length bs) ≡ size_by k (get_or bs 8 0) → call_in (k ∷ bs) ≡ call_of k (k ∷ bs)
whole-call k bs e =
    let size : call_size (k ∷ bs) ≡ size_by k (get_or bs 8 0) = pick_no 1 (size_by k (get_or bs 8 0)) (ne_eqb (suc (length bs)) 0 (λ z. omega arith)) in
    pick_yes _ _ (eq-eqb (suc (length bs)) (call_size (k ∷ bs)) (e ∙ sym size))

-- two numbers of k bytes each, and what is behind them
module _ (k a b : ℕ) (more : List ℕ) (small : a < 256 ^ k) (low : b < 256 ^ k) where
  pub first_field : number_in k (spelled k a ++ (spelled k b ++ more)) ≡ a
  first_field = number_spelled k a (spelled k b ++ more) small

  past_first : drop k (spelled k a ++ (spelled k b ++ more)) ≡ spelled k b ++ more
  past_first = drop_at (spelled k a) (spelled k b ++ more) k (length-spelled k a)

  pub second-field : number_in k (drop k (spelled k a ++ (spelled k b ++ more))) ≡ b
  second-field = rw past_first (number_spelled k b more low)

pub length_two : (k a b : ℕ) → length (spelled k a ++ spelled k b) ≡ k + k
length_two k a b = omega (arith, length-append (spelled k a) (spelled k b), length-spelled k a, length-spelled k b)

-- a call of one field, and one of two, whichever it is
one_back : (k a : ℕ) (make : ℕ → Call) → ((n : ℕ) → size_by k n ≡ 5) → ((bs : List ℕ) → call_of k (k ∷ bs) ≡ make (number_in 4 bs)) → ltb a 4294967296 ≡ true → call_in (k ∷ spelled 4 a) ≡ make a
one_back k a make size of small =
    whole-call k (spelled 4 a) (ap suc (length-spelled 4 a) ∙ sym (size _)) ∙ of (spelled 4 a)
    ∙ ap make (ap (number_in 4) (sym (append-nil (spelled 4 a))) ∙ number_spelled 4 a [] (ltb-true a 4294967296 small))

two_back : (k a b : ℕ) (make : ℕ → ℕ → Call) → ((n : ℕ) → size_by k n ≡ 9) → ((bs : List ℕ) → call_of k (k ∷ bs) ≡ make (number_in 4 bs) (number_in 4 (drop 4 bs)))
    → (ltb a 4294967296 && ltb b 4294967296) ≡ true → call_in (k ∷ (spelled 4 a ++ spelled 4 b)) ≡ make a b
two_back k a b make size of small =
    let both = and_parts _ _ small in
    let a_small = ltb-true a 4294967296 both.0 in
    let b-small = ltb-true b 4294967296 both.1 in
    let same : spelled 4 a ++ spelled 4 b ≡ spelled 4 a ++ (spelled 4 b ++ []) = ap (λ l. spelled 4 a ++ l) (sym (append-nil (spelled 4 b))) in
    whole-call k (spelled 4 a ++ spelled 4 b) (ap suc (length_two 4 a b) ∙ sym (size _)) ∙ of (spelled 4 a ++ spelled 4 b)
    ∙ ap₂ make (ap (number_in 4) same ∙ first_field 4 a b [] a_small b-small) (ap (λ l. number_in 4 (drop 4 l)) same ∙ second-field 4 a b [] a_small b-small)

bid_back : (k b : ℕ) (bs : Bids) → readable (bids k b bs) ≡ true → call_in (call_bytes (bids k b bs)) ≡ bids k b bs
unfolding readable
bid_back k b bs r =
    let parts = and_parts _ _ r in
    let both = and_parts _ _ parts.0 in
    let rest = and_parts _ _ parts.1 in
    let more : List ℕ = length bs ∷ bids_bytes bs in
    let row : List ℕ = spelled 4 k ++ (spelled 4 b ++ more) in
    let k-small = ltb-true k 4294967296 both.0 in
    let b-small = ltb-true b 4294967296 both.1 in
    let behind : drop 8 row ≡ more = sym (drop-drop 4 4 row) ∙ ap (drop 4) (past_first 4 k b more k-small b-small) ∙ drop_at (spelled 4 b) more 4 (length-spelled 4 b) in
    let count : get_or row 8 0 ≡ length bs = sym (get_or-drop 8 row 0 0) ∙ ap (λ l. get_or l 0 0) behind in
    let tail : drop 9 row ≡ bids_bytes bs = sym (drop-drop 1 8 row) ∙ ap (drop 1) behind in
    let long : length row ≡ 9 + 6 * length bs =
    omega (arith, length-append (spelled 4 k) (spelled 4 b ++ more), length-append (spelled 4 b) more, length-spelled 4 k, length-spelled 4 b, length-bids_bytes bs) in
    let made : bids_in (length bs) (bids_bytes bs) ≡ bs = ap (bids_in (length bs)) (sym (append-nil (bids_bytes bs))) ∙ bids_forth bs [] rest.1 in
    whole-call 1 row (omega arith) ∙ rw (first_field 4 k b more k-small b-small, second-field 4 k b more k-small b-small, count, tail, made)

pub calls_come_back : CallsComeBack
unfolding CallsComeBack readable
calls_come_back = go
  where
    go : (c : Call) → is_call c ≡ true → readable c ≡ true → call_in (call_bytes c) ≡ c
    go (opens n t) i r = two_back 0 n t opens (λ _. refl) (λ _. refl) r
    go (bids k b bs) i r = bid_back k b bs r
    go (ticks n) i r = one_back 2 n ticks (λ _. refl) (λ _. refl) r
    go (my_bids k b) i r = two_back 3 k b my_bids (λ _. refl) (λ _. refl) r
    go (result k b) i r = two_back 4 k b result (λ _. refl) (λ _. refl) r
    go (brings k) i r = one_back 5 k brings (λ _. refl) (λ _. refl) r
    go (lot_is k) i r = one_back 6 k lot_is (λ _. refl) (λ _. refl) r
    go (garbled n) i r = absurd (false≢true i)

-- a row that is a whole call: what it is can be carried, and is written as that row
pub record Whole (k : ℕ) (bs : List ℕ) : Type 0 where
  pub back : call_bytes (call_of k (k ∷ bs)) ≡ k ∷ bs
  pub fits : readable (call_of k (k ∷ bs)) ≡ true
  pub call : is_call (call_of k (k ∷ bs)) ≡ true

small_field : (bs : List ℕ) → AllBytes bs → field (number_in 4 bs) ≡ true
small_field bs h = lt-ltb (number_in 4 bs) 4294967296 (number_below 4 bs h)

one_bytes : (bs : List ℕ) → AllBytes bs → length bs ≡ 4 → spelled 4 (number_in 4 bs) ≡ bs
one_bytes bs h long = spelled-number 4 bs h (omega arith) ∙ take_all 4 bs (omega arith)

two_bytes : (bs : List ℕ) → AllBytes bs → length bs ≡ 8 → spelled 4 (number_in 4 bs) ++ spelled 4 (number_in 4 (drop 4 bs)) ≡ bs
two_bytes bs h long =
    rw (spelled-number 4 bs h (omega arith), one_bytes (drop 4 bs) (drop_bytes 4 bs h) (omega (arith, length-drop 4 bs))) (take-append-drop 4 bs)

fields_made : (n : ℕ) (bs : List ℕ) → AllBytes bs → fields_of (bids_in n bs) ≡ true
unfolding fields_of bids_in
fields_made zero bs h = refl
fields_made (suc n) bs h =
    and_from _ _ (and_from _ _ (small_field (drop 2 bs) (drop_bytes 2 bs h)) (eq-eqb _ 16 (length-bits 16 (number_in 2 bs)))) (fields_made n (drop 6 bs) (drop_bytes 6 bs h))

-- whichever call of one field, or of two, it is
one-whole : (k : ℕ) (bs : List ℕ) → AllBytes bs → length bs ≡ 4 → call_bytes (call_of k (k ∷ bs)) ≡ k ∷ spelled 4 (number_in 4 bs) → readable (call_of k (k ∷ bs)) ≡ field (number_in 4 bs) → is_call (call_of k (k ∷ bs)) ≡ true → Whole k bs
one-whole k bs h long is can call = record { back = is ∙ ap (λ l. k ∷ l) (one_bytes bs h long); fits = can ∙ small_field bs h; call = call }

two_whole : (k : ℕ) (bs : List ℕ) → AllBytes bs → length bs ≡ 8 → call_bytes (call_of k (k ∷ bs)) ≡ k ∷ (spelled 4 (number_in 4 bs) ++ spelled 4 (number_in 4 (drop 4 bs)))
    → readable (call_of k (k ∷ bs)) ≡ (field (number_in 4 bs) && field (number_in 4 (drop 4 bs))) → is_call (call_of k (k ∷ bs)) ≡ true → Whole k bs
two_whole k bs h long is can call = record {
  back = is ∙ ap (λ l. k ∷ l) (two_bytes bs h long);
  fits = can ∙ and_from _ _ (small_field bs h) (small_field (drop 4 bs) (drop_bytes 4 bs h));
  call = call;
}

bid-whole : (bs : List ℕ) → AllBytes bs → suc (length bs) ≡ 10 + 6 * get_or bs 8 0 → Whole 1 bs
unfolding readable
bid-whole bs h e =
    let c : ℕ = get_or bs 8 0 in
    let byte : c < 256 = h 8 in
    let rest : bids_bytes (bids_in c (drop 9 bs)) ≡ drop 9 bs =
    bids_back c (drop 9 bs) (drop_bytes 9 bs h) (omega (arith, length-drop 9 bs)) ∙ take_all (6 * c) (drop 9 bs) (omega (arith, length-drop 9 bs)) in
    let count : length (bids_in c (drop 9 bs)) ≡ c = length-bids_in c (drop 9 bs) in
    let behind : c ∷ drop 9 bs ≡ drop 4 (drop 4 bs) = sym (drop-drop 4 4 bs ∙ drop_more bs 8 0 (omega arith)) in
    let eight : spelled 4 (number_in 4 (drop 4 bs)) ≡ take 4 (drop 4 bs) = spelled-number 4 (drop 4 bs) (drop_bytes 4 bs h) (omega (arith, length-drop 4 bs)) in
    record {
      back = rw (rest, count, behind, eight, take-append-drop 4 (drop 4 bs), spelled-number 4 bs h (omega arith), take-append-drop 4 bs);
      fits = and_from _ _ (and_from _ _ (small_field bs h) (small_field (drop 4 bs) (drop_bytes 4 bs h))) (and_from _ _ (rw count (lt-ltb c 256 byte)) (fields_made c (drop 9 bs) (drop_bytes 9 bs h)));
      call = refl;
    }

no_kind : (k n : ℕ) → 7 ≤ k → size_by k n ≡ 0
no_kind k n h = grind (arith, nat_tests)

kinds : (k : ℕ) (bs : List ℕ) → AllBytes bs → suc (length bs) ≡ size_by k (get_or bs 8 0) → Whole k bs
unfolding readable
kinds zero bs h e = two_whole 0 bs h (omega arith) refl refl refl
kinds (suc zero) bs h e = bid-whole bs h e
kinds (suc (suc zero)) bs h e = one-whole 2 bs h (omega arith) refl refl refl
kinds (suc (suc (suc zero))) bs h e = two_whole 3 bs h (omega arith) refl refl refl
kinds (suc (suc (suc (suc zero)))) bs h e = two_whole 4 bs h (omega arith) refl refl refl
kinds (suc (suc (suc (suc (suc zero))))) bs h e = one-whole 5 bs h (omega arith) refl refl refl
kinds (suc (suc (suc (suc (suc (suc zero)))))) bs h e = one-whole 6 bs h (omega arith) refl refl refl
kinds (suc (suc (suc (suc (suc (suc (suc k))))))) bs h e = absurd (omega (arith, no_kind (suc (suc (suc (suc (suc (suc (suc k))))))) (get_or bs 8 0) (omega arith)))

-- what makes a row a call: it is as long as a call that begins so
as_long : (bs : List ℕ) → is_call (call_in bs) ≡ true → length bs ≡ call_size bs
as_long bs i = go (eqb (length bs) (call_size bs)) refl
  where
    go : (t : Bool) → eqb (length bs) (call_size bs) ≡ t → length bs ≡ call_size bs
    go true e = eqb-true (length bs) (call_size bs) e
    go false e = absurd (false≢true (ap is_call (sym (pick_no _ _ e)) ∙ i))

whole_row : (k : ℕ) (bs : List ℕ) → AllBytes (k ∷ bs) → length (k ∷ bs) ≡ call_size (k ∷ bs) → Whole k bs
whole_row k bs h e = kinds k bs (rest_bytes k bs h) (e ∙ pick_no 1 (size_by k (get_or bs 8 0)) (ne_eqb (suc (length bs)) 0 (λ z. omega arith)))

pub bytes_come_back : BytesComeBack
unfolding BytesComeBack
bytes_come_back = go
  where
    go : (bs : List ℕ) → AllBytes bs → is_call (call_in bs) ≡ true → call_bytes (call_in bs) ≡ bs
    go [] h i = absurd (false≢true i)
    go (k ∷ bs) h i = let long = as_long (k ∷ bs) i in ap call_bytes (pick_yes _ _ (eq-eqb (suc (length bs)) _ long)) ∙ (whole_row k bs h long).back

pub one_row_a_call : OneRowACall
unfolding OneRowACall BytesComeBack
one_row_a_call = λ bs cs hb hc i e. sym (bytes_come_back bs hb i) ∙ ap call_bytes e ∙ bytes_come_back cs hc (ap is_call (sym e) ∙ i)

-- no call has so many bytes that its place could not be carried
size_small : (bs : List ℕ) → AllBytes bs → call_size bs < 4294967296
size_small bs h = let count = h 9 in grind (arith, nat_tests)

pub read_is_readable : ReadIsReadable
unfolding ReadIsReadable readable
read_is_readable = go
  where
    place : (bs : List ℕ) → AllBytes bs → readable (garbled (min (length bs) (call_size bs))) ≡ true
    place bs h = lt-ltb _ 4294967296 (omega (arith, size_small bs h))

    split : (bs : List ℕ) → AllBytes bs → (t : Bool) → eqb (length bs) (call_size bs) ≡ t → readable (call_in bs) ≡ true
    split [] h t e = refl
    split (k ∷ bs) h true e = ap readable (pick_yes _ _ e) ∙ (whole_row k bs h (eqb-true (suc (length bs)) _ e)).fits
    split (k ∷ bs) h false e = ap readable (pick_no _ _ e) ∙ place (k ∷ bs) h

    go : (bs : List ℕ) → AllBytes bs → readable (call_in bs) ≡ true
    go bs h = split bs h (eqb (length bs) (call_size bs)) refl

-- how long a call is that begins so hangs on its first byte, and where that says bids on the tenth
same_size : (bs cs : List ℕ) → 0 < length bs → 0 < length cs → get_or bs 0 0 ≡ get_or cs 0 0 → (get_or bs 0 0 ≡ 1 → get_or bs 9 0 ≡ get_or cs 9 0) → call_size bs ≡ call_size cs
same_size bs cs hb hc first tenth =
    pick_no 1 _ (ne_eqb (length bs) 0 (λ z. omega arith)) ∙ go (eqb (get_or bs 0 0) 1) refl ∙ sym (pick_no 1 _ (ne_eqb (length cs) 0 (λ z. omega arith)))
  where
    go : (t : Bool) → eqb (get_or bs 0 0) 1 ≡ t → size_by (get_or bs 0 0) (get_or bs 9 0) ≡ size_by (get_or cs 0 0) (get_or cs 9 0)
    go true e = ap₂ size_by first (tenth (eqb-true _ 1 e))
    go false e = pick_no _ _ e ∙ sym (ap (λ k. size_by k (get_or cs 9 0)) (sym first) ∙ pick_no _ _ e)

-- a row that is a whole call is the beginning of one
whole_begins : (bs more : List ℕ) → AllBytes (bs ++ more) → length (bs ++ more) ≡ call_size (bs ++ more) → Begins bs
whole_begins [] [] h e = absurd (omega arith)
whole_begins [] (k ∷ more) h e = let w = whole_row k more h e in (call_of k (k ∷ more), k ∷ more, w.call, w.fits, w.back)
whole_begins (k ∷ bs) more h e = let w = whole_row k (bs ++ more) h e in (call_of k (k ∷ (bs ++ more)), more, w.call, w.fits, w.back)

-- some call begins with nothing
nothing_begins : Begins []
unfolding readable
nothing_begins = (ticks 0, call_bytes (ticks 0), refl, refl, refl)

-- zeros behind a row change no byte that is looked at
get_or_zeros : (bs : List ℕ) (n i : ℕ) → get_or (bs ++ replicate n 0) i 0 ≡ get_or bs i 0
get_or_zeros [] zero i = refl
get_or_zeros [] (suc n) zero = refl
get_or_zeros [] (suc n) (suc i) = get_or_zeros [] n i
get_or_zeros (b ∷ bs) n zero = refl
get_or_zeros (b ∷ bs) n (suc i) = get_or_zeros bs n i

-- a row that is too short is filled up with zeros to a call
short_begins : (bs : List ℕ) → AllBytes bs → length bs < call_size bs → Begins bs
short_begins [] h short = nothing_begins
short_begins (k ∷ bs) h short =
    let row : List ℕ = k ∷ bs in
    let zeros : ℕ = call_size row - length row in
    let filled : List ℕ = row ++ replicate zeros 0 in
    let long : length filled ≡ call_size row = length-append row (replicate zeros 0) ∙ omega (arith, length-replicate {A = ℕ} zeros 0) in
    let same : call_size filled ≡ call_size row = same_size filled row (omega arith) (omega arith) (get_or_zeros row zeros 0) (λ e. get_or_zeros row zeros 9) in
    whole_begins row (replicate zeros 0) (λ i. rw (get_or_zeros row zeros i) (h i)) (long ∙ sym same)

-- the first m bytes, and whatever comes behind them, have their bytes where the row has them
front-byte : (bs more : List ℕ) (m i : ℕ) → i < m → m ≤ length bs → get_or (take m bs ++ more) i 0 ≡ get_or bs i 0
front-byte bs more m i h long = get_or_append_left (take m bs) more 0 i (omega (arith, length-take-le m bs long)) ∙ get_or-take m bs i 0 h

-- a row that begins with a whole call, or with one byte more, is as long as it
front_size : (bs more : List ℕ) (m : ℕ) → 0 < m → m ≤ length bs → call_size bs ≤ m → call_size (take m bs ++ more) ≡ call_size bs
front_size bs more m some long past =
    same_size (take m bs ++ more) bs (omega (arith, length-append (take m bs) more, length-take-le m bs long)) (omega arith) (front-byte bs more m 0 some long)
    (λ one. front-byte bs more m 9 (bid_past (front-byte bs more m 0 some long) one) long)
  where
    bid_past : get_or (take m bs ++ more) 0 0 ≡ get_or bs 0 0 → get_or (take m bs ++ more) 0 0 ≡ 1 → 9 < m
    bid_past same one = grind (arith, nat_tests)

pub take_bytes : (n : ℕ) (bs : List ℕ) → AllBytes bs → AllBytes (take n bs)
take_bytes zero bs h i = omega arith
take_bytes (suc n) [] h i = omega arith
take_bytes (suc n) (b ∷ bs) h zero = h 0
take_bytes (suc n) (b ∷ bs) h (suc i) = take_bytes n bs (rest_bytes b bs h) i

-- bytes that are no call are not as long as one, and cease to be one at the shorter of the two lengths
never_whole : (bs : List ℕ) (n : ℕ) → AllBytes bs → call_in bs ≡ garbled n → length bs ≡ call_size bs → ⊥
never_whole [] n h e whole = omega arith
never_whole (k ∷ bs) n h e whole =
    false≢true (ap is_call (sym e) ∙ ap is_call (pick_yes _ _ (eq-eqb (suc (length bs)) _ whole)) ∙ (whole_row k bs h whole).call)

the_place : (bs : List ℕ) (n : ℕ) → AllBytes bs → call_in bs ≡ garbled n → n ≡ min (length bs) (call_size bs)
the_place bs n h e = let same : garbled n ≡ garbled (min (length bs) (call_size bs)) = sym e ∙ pick_no _ _ (ne_eqb _ _ (never_whole bs n h e)) in cc

-- a row that is too long begins with a call, if with any
long_begins : (bs : List ℕ) (n : ℕ) → AllBytes bs → n ≡ call_size bs → n < length bs → Begins (take n bs)
long_begins bs zero h e long = nothing_begins
long_begins bs (suc n) h e long =
    let front : List ℕ = take (suc n) bs in
    let size = front_size bs [] (suc n) (omega arith) (omega arith) (omega arith) in
    let whole : length (front ++ []) ≡ call_size (front ++ []) = ap length (append-nil front) ∙ length-take-le (suc n) bs (omega arith) ∙ e ∙ sym size in
    whole_begins front [] (subst AllBytes (sym (append-nil front)) (take_bytes (suc n) bs h)) whole

none-longer : (bs : List ℕ) (m : ℕ) → call_size bs < m → m ≤ length bs → Begins (take m bs) → ⊥
unfolding CallsComeBack
none-longer bs m past long (c, more, i, r, w) =
    let row : List ℕ = take m bs ++ more in
    let back : call_in row ≡ c = ap call_in (sym w) ∙ calls_come_back c i r in
    let whole = as_long row (ap is_call back ∙ i) in
    let size = front_size bs more m (omega arith) long (omega arith) in
    omega (arith, length-append (take m bs) more, length-take-le m bs long)

pub place_is_longest : PlaceIsLongest
unfolding PlaceIsLongest
place_is_longest = λ bs n h e. go bs n h e (cases_order (length bs) (call_size bs))
  where
    go : (bs : List ℕ) (n : ℕ) → AllBytes bs → call_in bs ≡ garbled n → (length bs ≡ call_size bs) ⊎ ((length bs < call_size bs) ⊎ (call_size bs < length bs))
        → (n ≤ length bs) × Begins (take n bs) × ((m : ℕ) → n < m → m ≤ length bs → Begins (take m bs) → ⊥)
    go bs n h e (inl whole) = absurd (never_whole bs n h e whole)
    go bs n h e (inr (inl short)) =
        let place = the_place bs n h e in
        (omega arith, subst Begins (sym (take_all n bs (omega arith))) (short_begins bs h short), λ m past long b. omega arith)
    go bs n h e (inr (inr long)) =
        let place = the_place bs n h e in
        (omega arith, long_begins bs n h (omega arith) (omega arith), λ m past inside b. none-longer bs m (omega arith) inside b)
