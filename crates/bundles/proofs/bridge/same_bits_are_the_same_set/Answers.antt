use Rattle.std.proofs.Common.{ap}
use Rattle.std.proofs.lemmas.Bool.{eqb-true, eq-eqb}
use Rattle.bundles.specs.Masks.{bits}
use Rattle.bundles.proofs.Sets.{same_mask}
use Rattle.bundles.proofs.bridge.same_bits_are_the_same_set.Goals as goal

pub returns : goal.returns
returns c = λ n ha hb. (λ e. ap (bits n) (eqb-true _ _ e), λ e. eq-eqb _ _ (same_mask n c.args.a c.args.b ha hb e))
