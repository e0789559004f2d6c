use Rattle.std.proofs.Common.{◌≡◌, ◌++◌, [], take, drop}
use Rattle.class_table.specs.Faults.{declared_faults}
use Rattle.class_table.proofs.scope.note_all_declared.Given as goal

abbrev pub invariant-declared : goal.invariant-declared
invariant-declared l = record { at : l.at ≡ l.d-index; same : l.found.items ++ declared_faults l.table l.above (take l.d-index l.declared) (drop l.d-index l.declared) ≡ l.fn.found.items ++ declared_faults l.table l.above [] l.declared }
