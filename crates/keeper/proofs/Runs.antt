-- Any calls on sound words: the answers are the written house's, and the words hold the house that those calls leave. Assumes nothing.
use Rattle.std.proofs.Common.{◌≡◌, ℕ, Bool, true, List, [], ◌∷◌, ◌++◌, sym, refl, ap, ◌∙◌, ap₂, arith}
use Rattle.std.proofs.lemmas.Bool.{and_parts, and_from}
use Rattle.auction.specs.House.{Call, Answer, House, turned, after, answer, answers, ran, new_house, Limits as AllLimits}
use Rattle.auction.specs.Promise.{Memory, GoodLimits, readable, all_readable, told_by, left_by, thin, Right, RefusalKeeps, EnoughMemory}
use Rattle.ledger.specs.Houses.{limits_in, limits_of, house_in, Sound}
use Rattle.ledger.specs.Opening.{new_words}
use Rattle.ledger.proofs.Houses.{all_fit}
use Rattle.ledger.proofs.Opened.{length_new, new_sound, new_is_new}
use Rattle.keeper.specs.Keeping.{can_do, limits_now, turned_in, next_in, says_in, word_limits, the_keeper}
use Rattle.keeper.proofs.OneCall.{Kept, kept_same, turned_house, says_house, next_refused, next_lands}

-- the words that calls leave
abbrev pub left : List ℕ → List Call → List ℕ
left m cs = (left_by the_keeper (record { words = m }) cs).words

-- limits that are in the words are those that the house was opened with
pub limits_are : (l : AllLimits) (m : List ℕ) → l.calls_can ≡ can_do → limits_in m ≡ word_limits l → limits_now m ≡ l
limits_are l m t e =
    ap {B = AllLimits} (limits_of can_do) e ∙ ap {B = AllLimits} (λ (can : ℕ → Bool). record { calls_can = can; lots = l.lots; bidders = l.bidders; each = l.each }) (sym t)

-- one call, with the limits that the house was opened with
pub says_right : (l : AllLimits) (m : List ℕ) (c : Call) → l.calls_can ≡ can_do → Sound m → limits_in m ≡ word_limits l → says_in m c ≡ answer l (house_in m) c
says_right l m c t s e = says_house m c s.house ∙ ap (λ x. answer x (house_in m) c) (limits_are l m t e)

pub next_right : (l : AllLimits) (m : List ℕ) (c : Call) → l.calls_can ≡ can_do → Sound m → limits_in m ≡ word_limits l → readable c ≡ true → house_in (next_in m c) ≡ after l (house_in m) c
next_right l m c t s e r = (next_lands m c s r).0 ∙ ap {B = House} (λ x. after x (house_in m) c) (limits_are l m t e)

pub right_from : (l : AllLimits) (m : List ℕ) (cs : List Call) → l.calls_can ≡ can_do → Sound m → limits_in m ≡ word_limits l → all_readable cs ≡ true →
    told_by the_keeper (record { words = m }) cs ≡ answers l (house_in m) cs
unfolding told_by answers all_readable
right_from l m [] t s e r = refl
right_from l m (c ∷ cs) t s e r =
    let reads = and_parts (readable c) _ r in
    let k = (next_lands m c s reads.0).1 in
    let rest = right_from l (next_in m c) cs t k.sound (k.limits ∙ e) reads.1 in
    ap₂ (λ (a : Answer) (more : List Answer). a ∷ more) (says_right l m c t s e) (rest ∙ ap (λ h. answers l h cs) (next_right l m c t s e reads.0))

pub right : Right thin the_keeper
unfolding Right
right = λ l cs g t r. right_from l (new_words (word_limits l)) cs t (new_sound (word_limits l) g) refl r ∙ ap (λ h. answers l h cs) (new_is_new (word_limits l))

-- the words that calls leave are sound, with the same limits, and as many
pub left_kept : (m : List ℕ) (cs : List Call) → Sound m → all_readable cs ≡ true → Kept m (left m cs)
unfolding left_by all_readable
left_kept m [] s r = kept_same m s
left_kept m (c ∷ cs) s r =
    let reads = and_parts (readable c) _ r in
    let one = (next_lands m c s reads.0).1 in
    let more = left_kept (next_in m c) cs one.sound reads.1 in
    record { sound = more.sound; limits = more.limits ∙ one.limits; len = more.len ∙ one.len }

pub enough_memory : EnoughMemory the_keeper
unfolding EnoughMemory
enough_memory = λ l cs g r.
    let k = left_kept (new_words (word_limits l)) cs (new_sound (word_limits l) g) r in
    (omega (arith, k.len, length_new (word_limits l)), all_fit (left (new_words (word_limits l)) cs) k.sound.words)

-- and hold the house that they leave
pub left_house : (l : AllLimits) (m : List ℕ) (cs : List Call) → l.calls_can ≡ can_do → Sound m → limits_in m ≡ word_limits l → all_readable cs ≡ true → house_in (left m cs) ≡ ran l (house_in m) cs
unfolding left_by ran all_readable
left_house l m [] t s e r = refl
left_house l m (c ∷ cs) t s e r =
    let reads = and_parts (readable c) _ r in
    let k = (next_lands m c s reads.0).1 in
    left_house l (next_in m c) cs t k.sound (k.limits ∙ e) reads.1 ∙ ap {B = House} (λ h. ran l h cs) (next_right l m c t s e reads.0)

readable-front : (cs ds : List Call) → all_readable (cs ++ ds) ≡ true → all_readable cs ≡ true
unfolding all_readable
readable-front [] ds r = refl
readable-front (c ∷ cs) ds r = let reads = and_parts (readable c) _ r in and_from (readable c) _ reads.0 (readable-front cs ds reads.1)

-- after any calls the keeper turns away what the written house does
pub left-turned : (l : AllLimits) (cs : List Call) (c : Call) → GoodLimits l → l.calls_can ≡ can_do → all_readable cs ≡ true →
    turned_in (left (new_words (word_limits l)) cs) c ≡ turned l (ran l new_house cs) c
left-turned l cs c g t r =
    let m : List ℕ = new_words (word_limits l) in
    let s = new_sound (word_limits l) g in
    let k = left_kept m cs s r in
    let house : house_in (left m cs) ≡ ran l new_house cs = left_house l m cs t s refl r ∙ ap (λ (h : House). ran l h cs) (new_is_new (word_limits l)) in
    turned_house (left m cs) c k.sound.house ∙ ap₂ (λ (x : AllLimits) (h : House). turned x h c) (limits_are l (left m cs) t k.limits) house

pub refusal_keeps : RefusalKeeps thin the_keeper
unfolding RefusalKeeps
refusal_keeps = λ l cs c g t r away.
    let same = left-turned l cs c g t (readable-front cs (c ∷ []) r) in
    ap {B = Memory} (λ (w : List ℕ). record { words = w }) (next_refused (left (new_words (word_limits l)) cs) c (λ z. omega arith))
