use Rattle.std.proofs.Common.{◌≡◌, nat_eq}
use Rattle.std.specs.List.{list_any}
use Rattle.py_syntax.specs.Classes.{bases_from, is_subclass}
use Rattle.machine_items.proofs.classes.is_subclass.Given as goal

abbrev pub invariant-loop-left : goal.invariant-loop-left
invariant-loop-left l = list_any (nat_eq l.above) (bases_from l.m l.left l.next) ≡ is_subclass l.m l.class l.above

abbrev pub decreases-loop-left : goal.decreases-loop-left
decreases-loop-left l = l.left
