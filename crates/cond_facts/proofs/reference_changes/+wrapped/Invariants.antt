use Rattle.std.proofs.Common.{length}
use Rattle.cond_facts.proofs.reference_changes.+wrapped.Given as goal

abbrev pub decreases-wrapped : goal.decreases-wrapped
decreases-wrapped l = length l.pairs.now
