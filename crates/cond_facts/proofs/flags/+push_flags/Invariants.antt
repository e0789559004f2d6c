use Rattle.std.proofs.Common.{length}
use Rattle.cond_facts.proofs.flags.+push_flags.Given as goal

abbrev pub decreases-push_flags : goal.decreases-push_flags
decreases-push_flags l = length l.facts.now
