use Rattle.std.proofs.Common.{◌≡◌, drop}
use Rattle.class_table.specs.ClassList.{with_declared}
use Rattle.class_table.proofs.name_list.add_declared.Given as goal

abbrev pub invariant-declared : goal.invariant-declared
invariant-declared l = with_declared l.names (drop l.d-index l.declared) ≡ with_declared l.fn.names l.declared
