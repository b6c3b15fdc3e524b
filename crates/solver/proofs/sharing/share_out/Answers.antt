use Rattle.std.proofs.Common.{arith}
use Rattle.bundles.specs.Rows.{all_held}
use Rattle.solver.proofs.Bidders.{as_many}
use Rattle.solver.proofs.ByTables.{solved_by, solved_all, shared_as}
use Rattle.solver.proofs.sharing.share_out.Goals as goal

pub invariant_of-all-clause-solved : goal.invariant_of-all-clause-solved
invariant_of-all-clause-solved c =
    solved_all (all_held c.args.kept.now) (all_held c.args.rows.now) c.requires.1.1 _ _ (solved_by _ _ _ (all_held c.args.kept.now) (omega (arith, as_many c.args.rows.now, c.requires.1.1.long, c.requires.0.few_bidders)) c.fill_tables.ensures.filled)

pub returns : goal.returns
returns c = shared_as (all_held c.args.kept.now) (all_held c.args.rows.now) c.requires.1.1 _ _ _ c.allocate.ensures c.pay_all.ensures
