use Rattle.std.proofs.Common.{◌≡◌}
use Rattle.class_table.specs.Lookup.{chain_from}
use Rattle.type_base.specs.Members.{first_in, own_field, first_field}
use Rattle.type_base.proofs.meaning.first_field.Given as goal

abbrev pub invariant-bases : goal.invariant-bases
invariant-bases l = first_in (own_field l.classes l.name) (chain_from l.classes.list l.left l.class) ≡ first_field l.classes l.start l.name

abbrev pub decreases-bases : goal.decreases-bases
decreases-bases l = l.left
