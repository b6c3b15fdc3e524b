use denote.Text.{Utf8}
use denote.Shadow.{shadow}
use Rattle.printing.proofs.Texts.{Sofar}
use Rattle.printing.proofs.answers.write_offers.Given as goal

abbrev pub invariant-loop-bid : goal.invariant-loop-bid
invariant-loop-bid g l = shadow (Utf8 l.separator) × Sofar g.W.Write.write_str_gives l.initial.f l.f l.separator l.bids l.bid-index
