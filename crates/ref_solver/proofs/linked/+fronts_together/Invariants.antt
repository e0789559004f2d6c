use Rattle.std.proofs.Common.{length}
use Rattle.ref_solver.proofs.linked.+fronts_together.Given as goal

abbrev pub decreases-fronts_together : goal.decreases-fronts_together
decreases-fronts_together l = length l.xs.now
