use Rattle.std.proofs.Common.{◌≡◌, nat_eq}
use Rattle.std.specs.List.{list_any}
use Rattle.class_table.specs.Lookup.{chain_from, is_subclass}
use Rattle.class_table.proofs.inheriting.is_subclass.Given as goal

abbrev pub invariant-bases : goal.invariant-bases
invariant-bases l = list_any (nat_eq l.d) (chain_from l.classes l.left l.class) ≡ is_subclass l.classes l.c l.d

abbrev pub decreases-bases : goal.decreases-bases
decreases-bases l = l.left
