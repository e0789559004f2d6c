use Rattle.std.proofs.Common.{length}
use Rattle.ref_solver.proofs.linked.+last_is.Given as goal

abbrev pub decreases-last_is : goal.decreases-last_is
decreases-last_is l = length l.xs.now
