use Rattle.std.proofs.Common.{length}
use Rattle.cond_facts.proofs.reference_changes.+push_changed.Given as goal

abbrev pub decreases-push_changed : goal.decreases-push_changed
decreases-push_changed l = length l.pairs.now
