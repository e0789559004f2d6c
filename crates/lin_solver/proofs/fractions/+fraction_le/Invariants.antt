use Rattle.std.proofs.Common.{◌+◌}
use Rattle.lin_solver.proofs.fractions.+fraction_le.Given as goal

abbrev pub decreases-fraction_le : goal.decreases-fraction_le
decreases-fraction_le l = l.d + l.e
