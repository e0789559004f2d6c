use Rattle.std.proofs.Common.{◌≡◌, ◌≤◌, length, drop}
use Rattle.py_syntax.specs.StmtItems.{printed_items}
use Rattle.machine_model.proofs.control.stmt.push_printed.Given as goal

abbrev pub invariant-loop-at : goal.invariant-loop-at
invariant-loop-at l = (l.at ≤ length l.args) × (l.control ≡ printed_items (drop l.at l.args) l.fn.control)

abbrev pub decreases-loop-at : goal.decreases-loop-at
decreases-loop-at l = l.at
