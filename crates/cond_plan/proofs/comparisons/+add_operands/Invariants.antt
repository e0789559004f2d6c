use Rattle.std.proofs.Common.{length}
use Rattle.cond_plan.proofs.comparisons.+add_operands.Given as goal

abbrev pub decreases-add_operands : goal.decreases-add_operands
decreases-add_operands l = length l.xs.now
