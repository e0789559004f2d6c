use Rattle.std.proofs.Common.{length}
use Rattle.proof_checker.proofs.walk.+count_literals.Given as goal

abbrev pub decreases-count_literals : goal.decreases-count_literals
decreases-count_literals g l = length l.ls.now
