use Rattle.std.proofs.Common.{length}
use Rattle.cond_facts.proofs.reference_values.+name_sides.Given as goal

abbrev pub decreases-name_sides : goal.decreases-name_sides
decreases-name_sides l = length l.some.now
