-- A group of bidders by itself: what its members get and pay among all bidders is what they get and pay on their own pieces, moved together. Assumes nothing.
use Rattle.std.proofs.Common.{◌≡◌, ℕ, zero, suc, ◌/◌, ◌%◌, ◌^◌, ◌<◌, ◌≤◌, min, Bool, true, false, not, ◌&&◌, ◌||◌, eqb, ◌⊎◌, List, [], ◌∷◌, map, length, get_or, sym, refl, ap, ◌∙◌, subst, ap₂, inl, inr, arith, pow_mono}
use lib.Bits.{bit_and, and_step, and_comm}
use Rattle.std.specs.List.{range_with_len}
use Rattle.std.proofs.lemmas.List.FromFn.{get_or-map-range_with_len, length-range_with_len}
use Rattle.std.proofs.lemmas.List.{ext_get_or, get_or-map, get_or_past, length-map}
use Rattle.std.proofs.lemmas.List.Sums.{count_by-le-length}
use Rattle.std.proofs.lemmas.Bool.{cases_eq, cases_lt, eq-eqb, ne_eqb}
use Rattle.std.proofs.lemmas.Bool.Decides.{nat_tests}
use Rattle.auction.specs.Bids.{Some, Bids, all, within, pick, choice, pays, no_bid, Bid as Offer}
use Rattle.auction.specs.Faster.{packed, packed_bid, all_packed, how_many, PackedPieces}
use Rattle.auction.specs.Laws.{touches, pieces_of, only, shared, SameFor, SettledOnPieces}
use Rattle.auction.proofs.Groups.{only_at, settled_on_pieces}
use Rattle.auction.proofs.Packed.{packed_pieces, packed_shared}
use Rattle.auction.proofs.Sets.{touches-within, within_trans}
use Rattle.bundles.specs.Masks.{bits, mask_of}
use Rattle.bundles.specs.Offers.{meant, all_meant}
use Rattle.bundles.specs.Rows.{Row, held, all_held}
use Rattle.bundles.specs.declared.Bid.{Bid}
use Rattle.bundles.specs.declared.Bundle.{Bundle}
use Rattle.bundles.proofs.Sets.{bits_mask, mask_below, within_more, length-bits}
use Rattle.solver.proofs.Bidders.{as_many}
use Rattle.solver.proofs.Supersets.{upper_held}
use Rattle.solver.specs.Sharing.{Shared}
use Rattle.solver.specs.declared.outcome.Share.{Share}
use Rattle.settling.specs.Groups.{In, want, wants, AllWants, Closed, member, group_bids, GroupShares}
use Rattle.settling.specs.Packs.{packed_mask, packed_bids, places_in}
use Rattle.settling.proofs.Joining.{in_joined, in_joined_left, in_trans}
use Rattle.solver.proofs.Goods.{nothing}
use Rattle.settling.proofs.Packs.{head_many}

-- numbers as sets of any many pieces
pub in_within : (k m w : ℕ) → In m w → within (bits k m) (bits k w) ≡ true
unfolding within bits
in_within zero m w e = refl
in_within (suc k) m w e =
    let u = upper_held m w e in
    head (m % 2) (w % 2) u.1 (omega arith) (omega arith) (in_within k (m / 2) (w / 2) u.0)
  where
    head : (x y : ℕ) {t : Bool} → x ≤ y → x < 2 → y < 2 → t ≡ true → ((not (eqb x 1) || eqb y 1) && t) ≡ true
    head x y le hx hy e = grind (arith, nat_tests)

pub apart_touches : (k m w : ℕ) → bit_and m w ≡ 0 → touches (bits k m) (bits k w) ≡ false
unfolding touches bits
apart_touches zero m w e = refl
apart_touches (suc k) m w e = head (m % 2) (w % 2) (omega (arith, and_step m w)) (apart_touches k (m / 2) (w / 2) (omega (arith, and_step m w)))
  where
    head : (x y : ℕ) {t : Bool} → min x y ≡ 0 → t ≡ false → ((eqb x 1 && eqb y 1) || t) ≡ false
    head x y z e = grind (arith, nat_tests)

-- each bid is within what its bidder wants
bid_in : (bs : List Bid) (a : ℕ) → a < length bs → In (get_or bs a nothing).on.mask (wants bs)
unfolding wants
bid_in [] a lt = absurd (omega arith)
bid_in (b ∷ bs) zero lt = in_joined_left b.on.mask (wants bs)
bid_in (b ∷ bs) (suc a) lt = in_trans (get_or bs a nothing).on.mask (wants bs) _ (bid_in bs a (omega arith)) (in_joined b.on.mask (wants bs))

-- a bidder's bids, by its number
held_at : (rows : List Row) (i : ℕ) → get_or (all_held rows) i [] ≡ all_meant (get_or (map held rows) i [])
held_at [] i = refl
held_at (r ∷ rows) zero = refl
held_at (r ∷ rows) (suc i) = held_at rows i

pieces_at : (rows : List Row) (i a : ℕ) → a < length (get_or (map held rows) i []) → pieces_of (all_held rows) i a ≡ bits 16 (get_or (get_or (map held rows) i []) a nothing).on.mask
pieces_at rows i a lt =
    ap {B = Some} (λ (bs : Bids). (get_or bs a no_bid).on) (held_at rows i) ∙ ap {B = Some} (λ (o : Offer). o.on) (get_or-map meant (get_or (map held rows) i []) a nothing no_bid lt)

no_pieces : (rows : List Row) (i a : ℕ) → length (get_or (map held rows) i []) ≤ a → pieces_of (all_held rows) i a ≡ []
no_pieces rows i a le =
    ap {B = Some} (λ (bs : Bids). (get_or bs a no_bid).on) (held_at rows i) ∙ ap {B = Some} (λ (o : Offer). o.on) (get_or_past (all_meant (get_or (map held rows) i [])) a no_bid (omega (arith, length-map (get_or (map held rows) i []) meant)))

-- a bidder's pieces are among what it wants
pub pieces_within : (rows : List Row) (ws : List Bundle) (i a : ℕ) → AllWants rows ws → within (pieces_of (all_held rows) i a) (bits 16 (want ws i)) ≡ true
unfolding within
pieces_within rows ws i a aw = at (cases_lt a (length (get_or (map held rows) i [])))
  where
    at : (a < length (get_or (map held rows) i [])) ⊎ (length (get_or (map held rows) i []) ≤ a) → within (pieces_of (all_held rows) i a) (bits 16 (want ws i)) ≡ true
    at (inl there) =
        let P : ℕ → Type 0 = λ w. In (get_or (get_or (map held rows) i []) a nothing).on.mask w in
        ap (λ (s : Some). within s (bits 16 (want ws i))) (pieces_at rows i a there)
        ∙ in_within 16 (get_or (get_or (map held rows) i []) a nothing).on.mask (want ws i) (subst P (sym (aw.each i)) (bid_in (get_or (map held rows) i []) a there))
    at (inr le) = ap (λ (s : Some). within s (bits 16 (want ws i))) (no_pieces rows i a le)

-- packed sets have as many places as there are
length_packed_is : (m s : Some) → length (packed m s) ≡ how_many m
unfolding packed
length_packed_is [] s = refl
length_packed_is (true ∷ m) [] = omega (arith, length_packed_is m [], head_many true m)
length_packed_is (true ∷ m) (x ∷ s) = omega (arith, length_packed_is m s, head_many true m)
length_packed_is (false ∷ m) [] = omega (arith, length_packed_is m [], head_many false m)
length_packed_is (false ∷ m) (x ∷ s) = omega (arith, length_packed_is m s, head_many false m)

packed-front-bits : (k j x : ℕ) → k ≤ j → packed (all k) (bits j x) ≡ bits k x
unfolding packed all bits
packed-front-bits zero j x le = refl
packed-front-bits (suc k) zero x le = absurd (omega arith)
packed-front-bits (suc k) (suc j) x le = ap (λ (s : Some). eqb (x % 2) 1 ∷ s) (packed-front-bits k j (x / 2) (omega arith))

numbered : (n : ℕ) (s : Some) → length s ≡ n → bits n (mask_of s) ≡ s
numbered n s e = ap (λ (k : ℕ). bits k (mask_of s)) (sym e) ∙ bits_mask s

places_few : (m : ℕ) → places_in m ≤ 16
places_few m = omega (arith, count_by-le-length (λ (x : Bool). x) (bits 16 m), length-bits 16 m)

-- one bid, packed and given back its places
one_back : (m : ℕ) (hs : List Bid) → map (packed_bid (all (places_in m))) (all_meant (packed_bids m hs)) ≡ map (packed_bid (bits 16 m)) (all_meant hs)
one_back m [] = refl
one_back m (b ∷ hs) =
    let s : Some = packed (bits 16 m) (bits 16 b.on.mask) in
    let long : length s ≡ places_in m = length_packed_is (bits 16 m) (bits 16 b.on.mask) in
    let same : packed (all (places_in m)) (bits 16 (mask_of s)) ≡ s = packed-front-bits (places_in m) 16 (mask_of s) (places_few m) ∙ numbered (places_in m) s long in
    ap₂ (λ (o : Offer) (os : Bids). o ∷ os) (ap {B = Offer} (λ (t : Some). record { on = t; price = b.price }) same) (one_back m hs)

-- and lies on the group's pieces
one-within : (m : ℕ) (hs : List Bid) (a : ℕ) → within (get_or (all_meant (packed_bids m hs)) a no_bid).on (all (places_in m)) ≡ true
unfolding within
one-within m [] a = refl
one-within m (b ∷ hs) zero =
    let s : Some = packed (bits 16 m) (bits 16 b.on.mask) in
    let B : ℕ → Type 0 = λ k. mask_of s < 2 ^ k in
    let small : mask_of s < 2 ^ places_in m = subst B (length_packed_is (bits 16 m) (bits 16 b.on.mask)) (mask_below s) in
    sym (within_more 16 (places_in m) (mask_of s) (omega (arith, pow_mono (places_few m))) small)
one-within m (b ∷ hs) (suc a) = one-within m hs a

length-only : (g : ℕ → Bool) (bss : List Bids) → length (only g bss) ≡ length bss
unfolding only
length-only g [] = refl
length-only g (bs ∷ bss) = ap suc (length-only (λ i. g (suc i)) bss)

-- a group that is closed: what it wants and what the others want is apart
module _ (rows : List Row) (ws : List Bundle) (m : ℕ) (aw : AllWants rows ws) (c : Closed ws m) where
  -- no bids behind the last bidder
  behind : (i : ℕ) → length rows ≤ i → get_or (map held rows) i [] ≡ []
  behind i le = get_or_past (map held rows) i [] (omega (arith, length-map rows held))

  mine : (i a : ℕ) → member ws m i ≡ true → within (pieces_of (all_held rows) i a) (bits 16 m) ≡ true
  mine i a g = within_trans _ _ _ (pieces_within rows ws i a aw) (in_within 16 (want ws i) m (whole (c.each i)))
    where
      whole : (bit_and (want ws i) m ≡ 0) ⊎ In (want ws i) m → In (want ws i) m
      whole (inl away) = let z : ◌≡◌ {A = Bool} false true = sym (ap not (eq-eqb (bit_and (want ws i) m) 0 away)) ∙ g in cc
      whole (inr in-all) = in-all

  theirs : (i a : ℕ) → member ws m i ≡ false → touches (pieces_of (all_held rows) i a) (bits 16 m) ≡ false
  theirs i a g = touches-within _ _ _ (pieces_within rows ws i a aw) (apart_touches 16 m (want ws i) (and_comm m (want ws i) ∙ away (cases_eq (bit_and (want ws i) m) 0)))
    where
      away : (bit_and (want ws i) m ≡ 0) ⊎ (bit_and (want ws i) m ≡ 0 → ⊥) → bit_and (want ws i) m ≡ 0
      away (inl e) = e
      away (inr ne) = let z : ◌≡◌ {A = Bool} true false = sym (ap not (ne_eqb (bit_and (want ws i) m) 0 ne)) ∙ g in cc

  -- the group's bids, by their bidder's number
  group_at : (i : ℕ) → get_or (group_bids ws m rows) i [] ≡ pick (member ws m i) (all_meant (packed_bids m (get_or (map held rows) i []))) []
  group_at i = at (cases_lt i (length rows))
    where
      nobody : (t : Bool) → pick {A = Bids} t [] [] ≡ []
      nobody true = refl
      nobody false = refl

      at : (i < length rows) ⊎ (length rows ≤ i) → get_or (group_bids ws m rows) i [] ≡ pick (member ws m i) (all_meant (packed_bids m (get_or (map held rows) i []))) []
      at (inl lt) = get_or-map-range_with_len (λ (j : ℕ). pick (member ws m j) (all_meant (packed_bids m (get_or (map held rows) j []))) []) 0 (length rows) i i [] lt (omega arith)
      at (inr le) =
          get_or_past (group_bids ws m rows) i [] (omega (arith, length-map (range_with_len 0 (length rows)) (λ (j : ℕ). pick (member ws m j) (all_meant (packed_bids m (get_or (map held rows) j []))) []), length-range_with_len 0 (length rows)))
          ∙ sym (ap (λ (hs : List Bid). pick (member ws m i) (all_meant (packed_bids m hs)) []) (behind i le) ∙ nobody (member ws m i))

  group_long : length (group_bids ws m rows) ≡ length rows
  group_long = length-map (range_with_len 0 (length rows)) _ ∙ length-range_with_len 0 (length rows)

  -- packed the one way or the other
  same_at : (i : ℕ) → map (packed_bid (all (places_in m))) (get_or (group_bids ws m rows) i []) ≡ map (packed_bid (bits 16 m)) (get_or (only (member ws m) (all_held rows)) i [])
  same_at i =
      ap (map (packed_bid (all (places_in m)))) (group_at i)
      ∙ both (member ws m i) (get_or (map held rows) i [])
      ∙ ap (map (packed_bid (bits 16 m))) (sym (only_at (member ws m) (all_held rows) i ∙ ap (λ (bs : Bids). pick (member ws m i) bs []) (held_at rows i)))
    where
      both : (t : Bool) (hs : List Bid) → map (packed_bid (all (places_in m))) (pick t (all_meant (packed_bids m hs)) []) ≡ map (packed_bid (bits 16 m)) (pick t (all_meant hs) [])
      both true hs = one_back m hs
      both false hs = refl

  same_packed : all_packed (all (places_in m)) (group_bids ws m rows) ≡ all_packed (bits 16 m) (only (member ws m) (all_held rows))
  same_packed =
      let long-p = length-map (group_bids ws m rows) (map (packed_bid (all (places_in m)))) in
      let long-o = length-map (only (member ws m) (all_held rows)) (map (packed_bid (bits 16 m))) in
      let many = length-only (member ws m) (all_held rows) ∙ as_many rows in
      ext_get_or [] _ _ (omega (arith, long-p, long-o, many, group_long))
      (λ i lt.
      get_or-map (map (packed_bid (all (places_in m)))) (group_bids ws m rows) i [] [] (omega (arith, long-p)) ∙ same_at i
      ∙ sym (get_or-map (map (packed_bid (bits 16 m))) (only (member ws m) (all_held rows)) i [] [] (omega (arith, long-p, many, group_long))))

  -- every bid of the group is on its own pieces
  group_within : (i a : ℕ) → within (pieces_of (group_bids ws m rows) i a) (all (places_in m)) ≡ true
  unfolding within
  group_within i a = ap {B = Bool} (λ (bs : Bids). within (get_or bs a no_bid).on (all (places_in m))) (group_at i) ∙ at (member ws m i)
    where
      at : (t : Bool) → within (get_or (pick t (all_meant (packed_bids m (get_or (map held rows) i []))) []) a no_bid).on (all (places_in m)) ≡ true
      at true = one-within m (get_or (map held rows) i []) a
      at false = refl

  only-within : (i a : ℕ) → within (pieces_of (only (member ws m) (all_held rows)) i a) (bits 16 m) ≡ true
  unfolding within
  only-within i a = ap {B = Bool} (λ (bs : Bids). within (get_or bs a no_bid).on (bits 16 m)) (only_at (member ws m) (all_held rows) i) ∙ at (member ws m i) refl
    where
      at : (t : Bool) → member ws m i ≡ t → within (get_or (pick t (get_or (all_held rows) i []) []) a no_bid).on (bits 16 m) ≡ true
      at true g = mine i a g
      at false g = refl

  -- on all pieces that there are
  module _ (whole : ℕ) where
    part_is : packed (all (places_in m)) (bits (places_in m) (packed_mask m whole)) ≡ packed (bits 16 m) (shared (bits 16 whole) (bits 16 m))
    part_is =
        packed-front-bits (places_in m) (places_in m) (packed_mask m whole) (omega arith)
        ∙ numbered (places_in m) (packed (bits 16 m) (bits 16 whole)) (length_packed_is (bits 16 m) (bits 16 whole))
        ∙ sym (packed_shared (bits 16 m) (bits 16 whole))

    group_choice : choice (group_bids ws m rows) (bits (places_in m) (packed_mask m whole)) ≡ choice (only (member ws m) (all_held rows)) (shared (bits 16 whole) (bits 16 m))
    unfolding PackedPieces
    group_choice =
        sym (packed_pieces (all (places_in m)) (group_bids ws m rows) (bits (places_in m) (packed_mask m whole)) group_within).1
        ∙ ap₂ choice same_packed part_is
        ∙ (packed_pieces (bits 16 m) (only (member ws m) (all_held rows)) (shared (bits 16 whole) (bits 16 m)) only-within).1

    group_pays : (i : ℕ) → pays (group_bids ws m rows) (bits (places_in m) (packed_mask m whole)) i ≡ pays (only (member ws m) (all_held rows)) (shared (bits 16 whole) (bits 16 m)) i
    unfolding PackedPieces
    group_pays i =
        sym ((packed_pieces (all (places_in m)) (group_bids ws m rows) (bits (places_in m) (packed_mask m whole)) group_within).2 i)
        ∙ ap₂ (λ (css : List Bids) (free : Some). pays css free i) same_packed part_is
        ∙ (packed_pieces (bits 16 m) (only (member ws m) (all_held rows)) (shared (bits 16 whole) (bits 16 m)) only-within).2 i

    apart : (i : ℕ) → member ws m i ≡ true → SameFor (all_held rows) (bits 16 whole) (only (member ws m) (all_held rows)) (shared (bits 16 whole) (bits 16 m)) i
    unfolding SettledOnPieces
    apart i g = (settled_on_pieces (member ws m) (all_held rows) (bits 16 whole) (bits 16 m) mine theirs).1 i g

    pub member-place : (i : ℕ) → member ws m i ≡ true → get_or (choice (group_bids ws m rows) (bits (places_in m) (packed_mask m whole))) i 0 ≡ get_or (choice (all_held rows) (bits 16 whole)) i 0
    unfolding SameFor
    member-place i g = ap (λ (cs : List ℕ). get_or cs i 0) group_choice ∙ sym (apart i g).0

    pub member-pays : (i : ℕ) → member ws m i ≡ true → pays (group_bids ws m rows) (bits (places_in m) (packed_mask m whole)) i ≡ pays (all_held rows) (bits 16 whole) i
    unfolding SameFor
    member-pays i g = group_pays i ∙ sym (apart i g).1

    -- so the group's shares are its members' among all
    pub group_shared : (ss : List Share) → Shared (group_bids ws m rows) (bits (places_in m) (packed_mask m whole)) ss → GroupShares rows ws m (bits 16 whole) ss
    group_shared ss z =
        record {
          place = λ i lt g. (z.each i (omega (arith, group_long))).taken.place ∙ member-place i g;
          paid = λ i lt g. (z.each i (omega (arith, group_long))).paid ∙ member-pays i g;
        }

-- what there is of a group's pieces is a set of so many
pub part_small : (m whole : ℕ) → packed_mask m whole < 2 ^ places_in m
part_small m whole =
    let s : Some = packed (bits 16 m) (bits 16 whole) in
    let B : ℕ → Type 0 = λ k. mask_of s < 2 ^ k in
    subst B (length_packed_is (bits 16 m) (bits 16 whole)) (mask_below s)
