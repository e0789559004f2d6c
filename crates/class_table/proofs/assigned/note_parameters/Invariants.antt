use Rattle.std.proofs.Common.{◌≡◌, ◌++◌, take, flat_map}
use Rattle.class_table.specs.Faults.{parameter_fault}
use Rattle.class_table.proofs.assigned.note_parameters.Given as goal

abbrev pub invariant-params : goal.invariant-params
invariant-params l = l.found.items ≡ l.fn.found.items ++ flat_map parameter_fault (take l.param-index l.params)
