-- Bids written into bytes as they come. Assumes nothing.
use Rattle.std.proofs.Common.{◌≡◌, ℕ, ◌+◌, ◌*◌, ◌/◌, ◌<◌, ◌≤◌, min, true, List, [], ◌∷◌, ◌++◌, length, take, drop, sym, refl, ap, ◌∙◌, ap₂, arith}
use Rattle.std.proofs.lemmas.List.{drop_at, length-take-le, take_at}
use Rattle.std.proofs.lemmas.Bool.{and_from, lt-ltb}
use Rattle.auction.specs.Promise.{fields_of}
use Rattle.bundles.specs.Masks.{bits}
use Rattle.bundles.specs.Offers.{meant}
use Rattle.bundles.specs.declared.Bid.{Bid as Value}
use Rattle.wire.specs.Bytes.{bid_in, bids_bytes, bids_in, put}
use Rattle.wire.proofs.SixBytes.{bids_forth, bids_in-more, bids_part, length-bids_in}
use Rattle.wire.proofs.Writing.{length-bids_bytes, length-put}

pub as_many : (n : ℕ) (out : List ℕ) → length (bids_in n out) ≡ n
as_many n out = length-bids_in n out

-- a bid of the code has a price of four bytes and sixteen bits
fields_fit : (b : Value) → b.price < 4294967296 → fields_of (meant b ∷ []) ≡ true
unfolding fields_of bits
fields_fit b h = and_from _ _ (and_from _ _ (lt-ltb b.price 4294967296 h) refl) refl

-- one bid more in the bytes, those in front of it as they were
pub written_more : (n : ℕ) (out after : List ℕ) (b : Value) → 6 * n + 6 ≤ length out → b.price < 4294967296 → after ≡ put out (6 * n) (bids_bytes (meant b ∷ [])) → bids_in (n + 1) after ≡ bids_in n out ++ (meant b ∷ [])
unfolding put bids_in
written_more n out after b room h is =
    let six : length (take (6 * n) out) ≡ 6 * n = length-take-le (6 * n) out (omega arith) in
    let behind : List ℕ = bids_bytes (meant b ∷ []) ++ drop (6 * n + length (bids_bytes (meant b ∷ []))) out in
    let front : take (6 * n) after ≡ take (6 * n) out = ap (take (6 * n)) is ∙ take_at (take (6 * n) out) behind (6 * n) six in
    let last : drop (6 * n) after ≡ behind = ap (drop (6 * n)) is ∙ drop_at (take (6 * n) out) behind (6 * n) six in
    let same : bids_in n after ≡ bids_in n out =
    sym (bids_part n (6 * n) after refl (omega (arith, ap length is ∙ length-put out (6 * n) (bids_bytes (meant b ∷ [])) (omega (arith, length-bids_bytes (meant b ∷ [])))))) ∙ ap (λ l. bids_in (length l / 6) l) front ∙ bids_part n (6 * n) out refl (omega arith) in
    let new : bids_in 1 behind ≡ meant b ∷ [] = bids_forth (meant b ∷ []) _ (fields_fit b h) in
    bids_in-more n after ∙ ap₂ (λ l k. l ++ k) same (ap (λ l. bid_in l ∷ []) last ∙ new)

-- the part of the bytes that was written has just these bids
pub part_offers : (n : ℕ) (out : List ℕ) → n ≤ 255 → 1530 ≤ length out → bids_in (min (length (take (6 * n) out) / 6) 255) (take (6 * n) out) ≡ bids_in n out
part_offers n out few room =
    let long : length (take (6 * n) out) ≡ 6 * n = length-take-le (6 * n) out (omega arith) in
    let count : min (length (take (6 * n) out) / 6) 255 ≡ length (take (6 * n) out) / 6 = omega arith in
    ap (λ k. bids_in k (take (6 * n) out)) count ∙ bids_part n (6 * n) out refl (omega arith)
