-- Calls as bytes: what reading makes of them. Assumes nothing.
use Rattle.std.proofs.Common.{◌≡◌, ℕ, ◌+◌, ◌-◌, ◌*◌, ◌/◌, ◌%◌, ◌<◌, ◌≤◌, min, List, [], ◌∷◌, ◌++◌, length, get_or, take, drop, set, sym, refl, ap, ◌∙◌, arith, length-append, length-drop}
use borrow.Rule.Slice.PartMut.{put_mid}
use Rattle.std.proofs.lemmas.List.{append_assoc, append-nil, take_all, take_rest}
use Rattle.std.proofs.lemmas.Bool.Decides.{nat_tests}
use Rattle.auction.specs.Bids.{Bids}
use Rattle.auction.specs.House.{bids}
use Rattle.wire.specs.Bytes.{AllBytes, Written, all_bytes, put, spelled, number_in, bids_in, bids_bytes}
use Rattle.wire.specs.Calls.{call_bytes, call_of, call_size}
use Rattle.wire.specs.Sizes.{length-spelled}
use Rattle.wire.proofs.SixBytes.{bids_back, length-bids_in}
use Rattle.wire.proofs.Writing.{length-put, written-behind, put-behind, put_part, put-put}

-- as many bids follow as the count says
bids_fill : (bs : List ℕ) → get_or bs 0 0 ≡ 1 → length bs ≡ call_size bs → get_or bs 9 0 < 256 → min (length (drop 10 bs) / 6) 255 ≡ get_or bs 9 0
bids_fill bs one whole byte =
    let size : length bs ≡ 10 + 6 * get_or bs 9 0 = grind (arith, nat_tests) in
    omega (arith, length-drop 10 bs)

pub bid-read : (bs : List ℕ) (k b : ℕ) → get_or bs 0 0 ≡ 1 → length bs ≡ call_size bs → get_or bs 9 0 < 256 → k ≡ number_in 4 (drop 1 bs) → b ≡ number_in 4 (drop 5 bs) → bids k b (bids_in (min (length (take (length bs - 10) (drop 10 bs)) / 6) 255) (take (length bs - 10) (drop 10 bs))) ≡ call_of (get_or bs 0 0) bs
bid-read bs k b one whole byte at-k at_b =
    rw (take_rest bs 10, bids_fill bs one whole byte, at-k, at_b, one)

-- a call with bids as it is written: two fields, the count, and the bytes that the bids were read from
module _ (lot bidder : ℕ) (part : List ℕ) (bytes : AllBytes part) (whole : length part % 6 ≡ 0) where
  abbrev made : Bids
  made = bids_in (length part / 6) part

  made_bytes : bids_bytes made ≡ part
  made_bytes = bids_back (length part / 6) part bytes (omega arith) ∙ take_all (6 * (length part / 6)) part (omega arith)

  spelt_out : call_bytes (bids lot bidder made) ≡ (1 ∷ (spelled 4 lot ++ spelled 4 bidder)) ++ (length part / 6 ∷ part)
  spelt_out = rw (made_bytes, length-bids_in (length part / 6) part, append_assoc)

  pub length-bid-call : length (call_bytes (bids lot bidder made)) ≡ 10 + length part
  length-bid-call =
      ap length spelt_out
      ∙ omega (arith, length-append (spelled 4 lot ++ spelled 4 bidder) (length part / 6 ∷ part), length-append (spelled 4 lot) (spelled 4 bidder), length-spelled 4 lot, length-spelled 4 bidder)

  pub bid_call_written : (out two after : List ℕ) (byte size k : ℕ) → byte ≡ 1 → size ≡ 10 + length part → size ≤ length out → k ≡ length part
      → two ≡ put (set out 0 byte) 1 (all_bytes (spelled 4) (lot ∷ bidder ∷ [])) → after ≡ part
      → Written out (put_mid 10 k (set two 9 (length part / 6)) after) size (call_bytes (bids lot bidder made))
  bid_call_written out two after byte size k one e room n first second =
      let head : List ℕ = 1 ∷ (spelled 4 lot ++ (spelled 4 bidder ++ [])) in
      let count : ℕ = length part / 6 in
      let pair = written-behind (spelled 4) 4 (length-spelled 4) out two 1 byte 9 (lot ∷ bidder ∷ []) one refl (omega arith) first in
      let nine = pair.len in
      let long : length two ≡ length out = ap length pair.bytes ∙ length-put out 0 head (omega arith) in
      record {
        bytes = put_part 10 k (set two 9 count) after part second n ∙ put-behind two 9 10 count part (omega arith) refl ∙ ap (λ xs. put xs 9 (count ∷ part)) pair.bytes
            ∙ put-put out 0 9 head (count ∷ part) (omega arith) (omega arith) ∙ ap (put out 0) (sym (spelt_out ∙ ap (λ l. (1 ∷ (spelled 4 lot ++ l)) ++ (count ∷ part)) (sym (append-nil (spelled 4 bidder)))));
        len = e ∙ sym length-bid-call;
      }
