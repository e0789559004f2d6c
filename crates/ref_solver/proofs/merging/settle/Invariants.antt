use Rattle.std.proofs.Common.{length}
use Rattle.ref_solver.specs.Classes.{ArePartial}
use Rattle.ref_solver.proofs.merging.settle.Given as goal

abbrev pub invariant-loop-i : goal.invariant-loop-i
invariant-loop-i l = ArePartial l.lits l.classes

abbrev pub decreases-loop-i : goal.decreases-loop-i
decreases-loop-i l = length l.classes
