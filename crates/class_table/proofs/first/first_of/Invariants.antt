use Rattle.std.proofs.Common.{◌≡◌, None, drop}
use Rattle.class_table.specs.Faults.{first_of}
use Rattle.class_table.proofs.first.first_of.Given as goal

abbrev pub invariant-faults : goal.invariant-faults
invariant-faults l = first_of l.best (drop l.fault-index l.faults) ≡ first_of None l.faults
