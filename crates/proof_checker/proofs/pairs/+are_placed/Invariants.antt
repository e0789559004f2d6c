use Rattle.std.proofs.Common.{length}
use Rattle.proof_checker.proofs.pairs.+are_placed.Given as goal

abbrev pub decreases-are_placed : goal.decreases-are_placed
decreases-are_placed l = length l.xs.now
