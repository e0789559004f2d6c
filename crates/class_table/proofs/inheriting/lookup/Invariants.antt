use Rattle.std.proofs.Common.{◌≡◌}
use Rattle.class_table.specs.Lookup.{chain_from, first_method, lookup}
use Rattle.class_table.proofs.inheriting.lookup.Given as goal

abbrev pub invariant-bases : goal.invariant-bases
invariant-bases l = first_method l.classes l.names l.name (chain_from l.classes l.left l.class) ≡ lookup l.classes l.names l.c l.name

abbrev pub decreases-bases : goal.decreases-bases
decreases-bases l = l.left
