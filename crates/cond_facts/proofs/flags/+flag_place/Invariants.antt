use Rattle.std.proofs.Common.{length}
use Rattle.cond_facts.proofs.flags.+flag_place.Given as goal

abbrev pub decreases-flag_place : goal.decreases-flag_place
decreases-flag_place l = length l.facts.now
