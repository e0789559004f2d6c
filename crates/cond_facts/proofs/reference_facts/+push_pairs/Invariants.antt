use Rattle.std.proofs.Common.{length}
use Rattle.cond_facts.proofs.reference_facts.+push_pairs.Given as goal

abbrev pub decreases-push_pairs : goal.decreases-push_pairs
decreases-push_pairs l = length l.facts.now
