-- No bid names a piece beyond the sixteenth, so a lot that says it has more is settled as one of sixteen. Assumes nothing.
use Rattle.std.proofs.Common.{◌≡◌, ℕ, zero, suc, ◌+◌, ◌*◌, ◌/◌, ◌%◌, ◌^◌, ◌<◌, ◌≤◌, min, Bool, true, false, ◌⊎◌, List, [], ◌∷◌, map, length, get_or, sym, refl, ap, ◌∙◌, subst, ap₂, inl, inr, pow-suc, arith}
use Rattle.std.proofs.lemmas.Bool.{cases_lt}
use Rattle.auction.specs.Bids.{Some, Bids, all, within, choice, pays, no_bid, Bid as Offer}
use Rattle.auction.specs.Faster.{packed, packed_bid, all_packed, PackedPieces}
use Rattle.auction.specs.Laws.{pieces_of}
use Rattle.auction.proofs.Kept.{covers_itself}
use Rattle.auction.proofs.Packed.{packed_pieces}
use Rattle.bundles.specs.Masks.{bits}
use Rattle.bundles.specs.Offers.{all_meant}
use Rattle.bundles.specs.Rows.{Row, held, all_held}
use Rattle.bundles.specs.declared.Bid.{Bid}
use Rattle.bundles.proofs.Sets.{length-bits}
use Rattle.solver.specs.Choosing.{IsTaken}
use Rattle.solver.specs.Paying.{nothing_taken}
use Rattle.solver.specs.Sharing.{AllKept, Shared}
use Rattle.solver.specs.declared.outcome.Share.{Share}

-- all bids may be kept
pub all_kept_same : (bss : List Bids) → AllKept bss bss
all_kept_same bss =
    record { long = refl; each = λ i lt. record { among = λ j h. (j, refl); covered = λ a h. (a, covers_itself (get_or (get_or bss i []) a no_bid)) } }

-- sets of k pieces stay, and of more pieces the first k are kept
packed_same : (k : ℕ) (s : Some) → length s ≡ k → packed (all k) s ≡ s
unfolding packed all
packed_same zero [] e = refl
packed_same (suc k) [] e = absurd (omega arith)
packed_same zero (x ∷ s) e = absurd (omega arith)
packed_same (suc k) (x ∷ s) e = ap (λ (t : Some). x ∷ t) (packed_same k s (omega arith))

packed-front : (k n : ℕ) → k ≤ n → packed (all k) (all n) ≡ all k
unfolding packed all
packed-front zero n le = refl
packed-front (suc k) zero le = absurd (omega arith)
packed-front (suc k) (suc n) le = ap (λ (t : Some). true ∷ t) (packed-front k n (omega arith))

within-front : (k : ℕ) (s : Some) → length s ≤ k → within s (all k) ≡ true
unfolding within all
within-front k [] le = refl
within-front zero (true ∷ s) le = absurd (omega arith)
within-front zero (false ∷ s) le = absurd (omega arith)
within-front (suc k) (true ∷ s) le = within-front k s (omega arith)
within-front (suc k) (false ∷ s) le = within-front k s (omega arith)

-- bids by value are on sets of sixteen
bids_same : (bs : List Bid) → map (packed_bid (all 16)) (all_meant bs) ≡ all_meant bs
bids_same [] = refl
bids_same (b ∷ bs) =
    ap₂ (λ (o : Offer) (os : Bids). o ∷ os) (ap {B = Offer} (λ (s : Some). record { on = s; price = b.price }) (packed_same 16 (bits 16 b.on.mask) (length-bits 16 b.on.mask))) (bids_same bs)

rows_same : (rows : List Row) → all_packed (all 16) (all_held rows) ≡ all_held rows
rows_same [] = refl
rows_same (r ∷ rows) = ap₂ (λ (bs : Bids) (bss : List Bids). bs ∷ bss) (bids_same (held r)) (rows_same rows)

-- so is every bid of theirs, by its bidder and its place
bid-within : (bs : List Bid) (a : ℕ) → within (get_or (all_meant bs) a no_bid).on (all 16) ≡ true
unfolding within
bid-within [] a = refl
bid-within (b ∷ bs) zero = within-front 16 (bits 16 b.on.mask) (omega (arith, length-bits 16 b.on.mask))
bid-within (b ∷ bs) (suc a) = bid-within bs a

held-within : (rows : List Row) (i a : ℕ) → within (pieces_of (all_held rows) i a) (all 16) ≡ true
unfolding within
held-within [] i a = refl
held-within (r ∷ rows) zero a = bid-within (held r) a
held-within (r ∷ rows) (suc i) a = held-within rows i a

-- what a lot has of the sixteen pieces is all that counts
pub shared_by_sixteen : (rows : List Row) (n : ℕ) (free : Some) (ss : List Share) → packed (all 16) (all n) ≡ free → Shared (all_held rows) free ss → Shared (all_held rows) (all n) ss
unfolding PackedPieces
shared_by_sixteen rows n free ss e z =
    let bss : List Bids = all_held rows in
    let sixteen = packed_pieces (all 16) bss (all n) (held-within rows) in
    let chosen : choice bss free ≡ choice bss (all n) = ap₂ choice (sym (rows_same rows)) (sym e) ∙ sixteen.1 in
    let paid : (i : ℕ) → pays bss free i ≡ pays bss (all n) i = λ i. ap₂ (λ (css : List Bids) (f : Some). pays css f i) (sym (rows_same rows)) (sym e) ∙ sixteen.2 i in
    record {
      long = z.long;
      each = λ i lt.
          let A : List ℕ → Type 0 = λ cs. IsTaken (get_or bss i []) (get_or cs i 0) (get_or ss i nothing_taken).taken in
          record { taken = subst A chosen (z.each i lt).taken; paid = (z.each i lt).paid ∙ paid i };
      none = z.none;
    }

pub shared-any : (rows : List Row) (n k : ℕ) (ss : List Share) → k ≡ min n 16 → Shared (all_held rows) (all k) ss → Shared (all_held rows) (all n) ss
shared-any rows n k ss e z = go (cases_lt n 16)
  where
    go : (n < 16) ⊎ (16 ≤ n) → Shared (all_held rows) (all n) ss
    go (inl few) = let Q : ℕ → Type 0 = λ j. Shared (all_held rows) (all j) ss in let same : k ≡ n = omega arith in subst Q same z
    go (inr many) = let Q : ℕ → Type 0 = λ j. Shared (all_held rows) (all j) ss in let same : k ≡ 16 = omega arith in shared_by_sixteen rows n (all 16) ss (packed-front 16 n many) (subst Q same z)

-- a lot's pieces as a set of sixteen
min_none : (j : ℕ) → min 0 j ≡ 0
min_none j = omega arith

packed_all_is : (j n w : ℕ) → w + 1 ≡ 2 ^ min n j → packed (all j) (all n) ≡ bits j w
unfolding packed all bits
packed_all_is zero n w e = refl
packed_all_is (suc j) zero w e =
    let nothing : min 0 (suc j) ≡ 0 = omega arith in
    let none : w ≡ 0 = omega (arith, e ∙ ap (λ (k : ℕ). 2 ^ k) nothing) in
    rw none (ap (λ (s : Some). false ∷ s) (packed_all_is j zero 0 (sym (ap (λ (k : ℕ). 2 ^ k) (min_none j)))))
packed_all_is (suc j) (suc n) w e =
    let less : min (suc n) (suc j) ≡ suc (min n j) = omega arith in
    let twice : w + 1 ≡ 2 * 2 ^ min n j = e ∙ ap (λ (k : ℕ). 2 ^ k) less ∙ pow_suc' (min n j) in
    let odd : w % 2 ≡ 1 = omega arith in
    ap₂ (λ (x : Bool) (s : Some). x ∷ s) (rw odd refl) (packed_all_is j n (w / 2) (omega arith))
  where
    pow_suc' : (k : ℕ) → 2 ^ suc k ≡ 2 * 2 ^ k
    pow_suc' k = omega (arith, pow-suc 2 k)

pub shared-lot : (rows : List Row) (n w : ℕ) (ss : List Share) → w + 1 ≡ 2 ^ min n 16 → Shared (all_held rows) (bits 16 w) ss → Shared (all_held rows) (all n) ss
shared-lot rows n w ss e = shared_by_sixteen rows n (bits 16 w) ss (packed_all_is 16 n w e)
