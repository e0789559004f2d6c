use Rattle.std.proofs.Common.{◌≡◌}
use Rattle.py_syntax.specs.Classes.{bases_from, first_method, lookup}
use Rattle.machine_items.proofs.classes.lookup.Given as goal

abbrev pub invariant-loop-left : goal.invariant-loop-left
invariant-loop-left l = first_method l.m l.name (bases_from l.m l.left l.next) ≡ lookup l.m l.class l.name

abbrev pub decreases-loop-left : goal.decreases-loop-left
decreases-loop-left l = l.left
