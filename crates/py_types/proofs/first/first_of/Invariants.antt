use Rattle.std.proofs.Common.{◌≡◌, drop}
use Rattle.py_types.specs.Order.{first_of}
use Rattle.py_types.proofs.first.first_of.Given as goal

abbrev pub invariant-faults : goal.invariant-faults
invariant-faults l = first_of l.best (drop l.fault-index l.faults) ≡ first_of l.fn.so_far l.faults
