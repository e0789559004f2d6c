use Rattle.std.proofs.Common.{length}
use Rattle.cond_facts.proofs.reference_facts.+refute_pairs.Given as goal

abbrev pub decreases-refute_pairs : goal.decreases-refute_pairs
decreases-refute_pairs l = length l.equal.now
