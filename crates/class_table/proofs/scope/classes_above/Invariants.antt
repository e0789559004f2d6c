use Rattle.std.proofs.Common.{◌≡◌, ◌++◌}
use Rattle.class_table.specs.Bases.{bases_from, classes_above}
use Rattle.class_table.proofs.scope.classes_above.Given as goal

abbrev pub invariant-bases : goal.invariant-bases
invariant-bases l = l.above.items ++ bases_from l.rows l.left l.class ≡ classes_above l.rows l.number

abbrev pub decreases-bases : goal.decreases-bases
decreases-bases l = l.left
