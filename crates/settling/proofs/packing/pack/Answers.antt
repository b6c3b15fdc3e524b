use Rattle.std.proofs.Common.{◌∙◌, ap, sym, arith, rules}
use mir.Val.{bool_byte}
use Rattle.settling.proofs.Packs.{bit_small, packed_none, packed_there, packed_gone, mask_small}
use Rattle.settling.proofs.packing.pack.Goals as goal

pub loop-piece-init : goal.loop-piece-init
loop-piece-init c = packed_none c.args.places.mask c.args.set.mask

pub overflow_mul-mask : goal.overflow_mul-mask
overflow_mul-mask c = let small = mask_small c.args.places.mask c.loop-piece.piece (search rules) (search rules) c.args.set.mask c.loop-piece.mask c.loop-piece.invariant in omega arith

pub overflow_add-mask : goal.overflow_add-mask
overflow_add-mask c =
    let small = mask_small c.args.places.mask c.loop-piece.piece (search rules) (search rules) c.args.set.mask c.loop-piece.mask c.loop-piece.invariant in
    omega (arith, c.from.ensures, bit_small c.has-then-has.result)

pub loop-piece-preserved-then-has : goal.loop-piece-preserved-then-has
loop-piece-preserved-then-has c =
    packed_there c.args.places.mask c.loop-piece.piece (search rules) (search rules) c.args.set.mask c.loop-piece.mask c.from.result c.loop-piece.invariant
    (sym c.if-has.true ∙ c.has.ensures 16 (search rules)) (c.from.ensures ∙ ap bool_byte (c.has-then-has.ensures 16 (search rules)))

pub loop-piece-preserved : goal.loop-piece-preserved
loop-piece-preserved c =
    packed_gone c.args.places.mask c.loop-piece.piece (search rules) (search rules) c.args.set.mask c.loop-piece.mask c.loop-piece.invariant
    (sym c.if-has.false ∙ c.has.ensures 16 (search rules))
