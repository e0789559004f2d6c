use Rattle.std.proofs.Common.{◌≡◌}
use Rattle.class_table.specs.Lookup.{chain_from}
use Rattle.type_base.specs.Members.{first_in, own_method, method_from}
use Rattle.type_base.proofs.meaning.method_from.Given as goal

abbrev pub invariant-bases : goal.invariant-bases
invariant-bases l = first_in (own_method l.items l.name) (chain_from l.classes.list l.left l.class) ≡ method_from l.classes l.items l.name l.fn.start

abbrev pub decreases-bases : goal.decreases-bases
decreases-bases l = l.left
