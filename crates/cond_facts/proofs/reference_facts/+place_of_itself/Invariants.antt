use Rattle.std.proofs.Common.{length}
use Rattle.cond_facts.proofs.reference_facts.+place_of_itself.Given as goal

abbrev pub decreases-place_of_itself : goal.decreases-place_of_itself
decreases-place_of_itself l = length l.pairs.now
