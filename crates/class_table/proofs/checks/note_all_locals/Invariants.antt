use Rattle.std.proofs.Common.{◌≡◌, ◌++◌, take, flat_map}
use Rattle.class_table.specs.Faults.{local_faults}
use Rattle.class_table.proofs.checks.note_all_locals.Given as goal

abbrev pub invariant-members : goal.invariant-members
invariant-members l = l.found.items ≡ l.fn.found.items ++ flat_map local_faults (take l.method-index l.members)
