use Rattle.std.proofs.Common.{refl, arith}
use Rattle.std.proofs.Output.{has_written_of_eq, has_written_append, writes_in_calls_nil}
use Rattle.std.proofs.lemmas.List.{take_all}
use Rattle.bundles.specs.Masks.{bits}
use Rattle.bundles.proofs.Sets.{length-bits}
use Rattle.printing.specs.Lines.{set_text}
use Rattle.printing.proofs.Texts.{set_text-more}
use Rattle.printing.proofs.offers.PiecesDisplay.fmt.Goals as goal

pub loop-piece-init : goal.loop-piece-init
unfolding set_text
loop-piece-init g c = λ plain. record { wrote = writes_in_calls_nil g.W.Write.write_str_gives _; plain = plain }

pub loop-piece-preserved : goal.loop-piece-preserved
loop-piece-preserved g c =
    λ plain.
    let set = bits 16 c.args.self.now.0.mask in
    let was = c.loop-piece.invariant plain in
    has_written_of_eq g.W.Write.write_str_gives _ _ _ _ (set_text-more set c.loop-piece.piece (omega (arith, length-bits 16 c.args.self.now.0.mask)))
    (has_written_append g.W.Write.write_str_gives _ _ _ _ _ was (c.in_ok-write_piece.ensures was.plain refl))

pub returns-clause-writes : goal.returns-clause-writes
returns-clause-writes g c =
    λ plain ok.
    let set = bits 16 c.args.self.now.0.mask in
    rw (take_all c.loop-piece.piece set (omega (arith, length-bits 16 c.args.self.now.0.mask))) at (c.loop-piece.invariant plain)
