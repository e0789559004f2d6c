use Rattle.std.proofs.Common.{◌≡◌, [], drop}
use Rattle.class_table.specs.ClassList.{class_fields}
use Rattle.class_table.proofs.class_list.fields_of.Given as goal

abbrev pub invariant-declared : goal.invariant-declared
invariant-declared l = class_fields l.names l.fields (drop l.d-index l.declared) ≡ class_fields l.names [] l.declared
