use Rattle.std.proofs.Common.{length}
use Rattle.proof_checker.proofs.pairs.+are_sides_in.Given as goal

abbrev pub decreases-are_sides_in : goal.decreases-are_sides_in
decreases-are_sides_in l = length l.ls.now
