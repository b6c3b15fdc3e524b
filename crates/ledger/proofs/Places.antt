-- Places in the lent memory: what lies within what, and what lies apart. One lemma, `past`, carries the products. Assumes nothing.
use Rattle.std.proofs.lemmas.Grind.{common_steps}
use Rattle.std.proofs.Common.{◌≡◌, ℕ, ◌+◌, ◌*◌, ◌/◌, ◌%◌, ◌<◌, ◌≤◌, sym, ap, ◌∙◌, mul-le-mul_right, suc-mul, arith}
use Rattle.std.proofs.lemmas.Nat.{div-mul-add, mod-mul-add}
use Rattle.ledger.specs.declared.layout.Limits.{Limits}
use Rattle.ledger.specs.Layout.{lot_at, row_at, row_size, tables_at}

-- before a later row there is room for an earlier one
pub past : (q r e : ℕ) → q < r → q * e + e ≤ r * e
past q r e h = omega (arith, suc-mul q e, mul-le-mul_right e h)

-- rows are numbered by lot and bidder
pub row_number : (k b n m : ℕ) → k < n → b < m → k * m + b < n * m
row_number k b n m hk hb = omega (arith, past k n m hk)

-- a row ends where the tables begin, or before
pub row_within : (l : Limits) (k b : ℕ) → k < l.lots → b < l.bidders → row_at l k b + row_size l ≤ tables_at l
row_within l k b hk hb = grind (arith, common_steps)

-- of two rows one ends where the other begins, or before
pub row_before : (l : Limits) (k b j c : ℕ) → k * l.bidders + b < j * l.bidders + c → row_at l k b + row_size l ≤ row_at l j c
row_before l k b j c h = omega (arith, past (k * l.bidders + b) (j * l.bidders + c) l.each h)

-- a row's number tells its lot and its bidder
pub same_number : (k b j c m : ℕ) → b < m → c < m → k * m + b ≡ j * m + c → (k ≡ j) × (b ≡ c)
same_number k b j c m hb hc e =
    (sym (div-mul-add k m b hb) ∙ ap (λ n. n / m) e ∙ div-mul-add j m c hc, sym (mod-mul-add k m b hb) ∙ ap (λ n. n % m) e ∙ mod-mul-add j m c hc)

-- a lot ends where the rows begin, or before
pub lot_within : (l : Limits) (k j c : ℕ) → k < l.lots → lot_at k + 8 ≤ row_at l j c
lot_within l k j c h = omega arith

-- of the bidders' rows on one lot the first begins first
pub first_row : (l : Limits) (k b : ℕ) → row_at l k 0 ≤ row_at l k b
first_row l k b = grind (arith, common_steps)

-- the rows of the lots that are not open yet begin before the tables
pub rows_before_tables : (l : Limits) (n : ℕ) → n ≤ l.lots → row_at l n 0 ≤ tables_at l
rows_before_tables l n h = grind (arith, common_steps)
