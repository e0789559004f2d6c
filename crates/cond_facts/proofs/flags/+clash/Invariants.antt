use Rattle.std.proofs.Common.{length}
use Rattle.cond_facts.proofs.flags.+clash.Given as goal

abbrev pub decreases-clash : goal.decreases-clash
decreases-clash l = length l.facts.now
