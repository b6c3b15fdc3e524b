use Rattle.std.proofs.Common.{length}
use Rattle.solver.proofs.welfare.+fill_tables.Given as goal

abbrev pub decreases-fill_tables : goal.decreases-fill_tables
decreases-fill_tables l = length l.rows.now
