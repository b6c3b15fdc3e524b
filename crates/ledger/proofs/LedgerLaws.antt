-- The laws of the lent memory, from the lemmas by subject. Assumes nothing.
use Rattle.std.proofs.lemmas.Grind.{common_steps}
use Rattle.std.proofs.Common.{◌≡◌, ℕ, ◌+◌, ◌*◌, ◌<◌, ◌≤◌, List, length, get_or, refl, ⊎_elim, arith}
use Rattle.std.proofs.lemmas.Bool.{cases_lt, cases_order}
use Rattle.auction.specs.Bids.{Bids}
use Rattle.ledger.specs.declared.layout.Limits.{Limits}
use Rattle.ledger.specs.Layout.{HasRow, count_at, row_at, row_size, house_words}
use Rattle.ledger.specs.Words.{with_row, row_over, row_words}
use Rattle.ledger.specs.Laws.{OpenedIsNew, WordsPromised, InRow, NoWordTwice, RowWritten, RowsComeBack, BidsLand, LotsLand, TimeLands}
use Rattle.ledger.proofs.Parts.{over_over}
use Rattle.ledger.proofs.Places.{row_within, row_before, same_number, lot_within}
use Rattle.ledger.proofs.RowWords.{length-row_words}
use Rattle.ledger.proofs.RowDeeds.{length-with_row, with_row_below, with_row_above, row_there, other_row, row_house, row_sound}
use Rattle.ledger.proofs.TimeDeeds.{now_house, now_sound}
use Rattle.ledger.proofs.LotDeeds.{lot_house, lot_sound}
use Rattle.ledger.proofs.Opened.{new_house-opened}

pub opened_is_new : OpenedIsNew
unfolding OpenedIsNew
opened_is_new = new_house-opened

pub words_promised : WordsPromised
unfolding WordsPromised
words_promised = λ l. omega arith

-- of two rows with a word in common neither comes first
rows_apart : (l : Limits) (i k b j c : ℕ) → b < l.bidders → c < l.bidders → InRow l k b i → InRow l j c i → (k ≡ j) × (b ≡ c)
rows_apart l i k b j c hb hc one other =
    ⊎_elim (same_number k b j c l.bidders hb hc)
    (⊎_elim (λ before. absurd (omega (arith, row_before l k b j c before))) (λ after. absurd (omega (arith, row_before l j c k b after))))
    (cases_order (k * l.bidders + b) (j * l.bidders + c))

pub no_word_twice : NoWordTwice
unfolding NoWordTwice
no_word_twice = λ l i.
    record {
      lots = λ k j one other. omega arith;
      rows = rows_apart l i;
      lot_row = λ k j c h one other. omega (arith, lot_within l k j c h);
      header_lot = λ k low one. omega arith;
      header_row = λ k b low one. omega arith;
      lot_tables = λ k h one. omega arith;
      row_tables = λ k b hk hb one. omega (arith, row_within l k b hk hb);
    }

row_written : (l : Limits) (m : List ℕ) (k b : ℕ) (bs : Bids) → HasRow l k b → house_words l ≤ length m → length bs ≤ l.each → RowWritten l m k b bs (with_row l m k b bs)
unfolding row_over
row_written l m k b bs r room few =
    record {
      len = length-with_row l m k b bs r.lot r.bidder room few;
      back = row_there l m k b bs r.lot r.bidder room few;
      others = λ i out. ⊎_elim (with_row_below l m k b bs r.lot r.bidder room few i)
          (λ high. ⊎_elim (λ low. absurd (out (high, low))) (with_row_above l m k b bs r.lot r.bidder room few i) (cases_lt i (row_at l k b + row_size l)))
          (cases_lt i (row_at l k b));
      rows = λ j c hc ne. other_row l m k b bs r.lot r.bidder room few j c (λ e. ne (same_number j c k b l.bidders hc r.bidder e));
      again = λ cs. over_over m (row_words (row_size l) bs) (row_at l k b) (row_size l) (omega (arith, row_within l k b r.lot r.bidder)) (length-row_words (row_size l) bs (omega arith)) (row_words (row_size l) cs);
    }

pub rows_come_back : RowsComeBack
unfolding RowsComeBack
rows_come_back = row_written

pub bids_land : BidsLand
unfolding BidsLand
bids_land = λ m k b bs can s hk hb few w. (row_house m k b bs s.house hk hb few w can, row_sound m k b bs s.house hk hb few w s)

pub lots_land : LotsLand
unfolding LotsLand
lots_land = λ m n t can s more hn ht. (lot_house m (get_or m count_at 0) n t s refl more can, lot_sound m (get_or m count_at 0) n t s refl more hn ht)

pub time_lands : TimeLands
unfolding TimeLands
time_lands = grind (arith, common_steps, now_house, now_sound)
