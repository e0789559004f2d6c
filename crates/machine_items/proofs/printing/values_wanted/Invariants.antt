use Rattle.std.proofs.Common.{◌≡◌, ◌+◌, ◌≤◌, drop}
use Rattle.py_syntax.specs.StmtItems.{values_wanted}
use Rattle.machine_items.proofs.printing.values_wanted.Given as goal

abbrev pub invariant-loop-arg : goal.invariant-loop-arg
invariant-loop-arg l = (l.count ≤ l.arg-index) × (l.count + values_wanted (drop l.arg-index l.args) ≡ values_wanted l.args)
