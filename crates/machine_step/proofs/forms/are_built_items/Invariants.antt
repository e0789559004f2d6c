use Rattle.std.proofs.Common.{ℕ, ◌≡◌, ◌<◌, Some, slice_get}
use Rattle.py_syntax.specs.declared.Value.{Value}
use Rattle.py_syntax.specs.declared.Item.{Item}
use Rattle.machine_step.specs.Built.{IsBuiltItem}
use Rattle.machine_step.proofs.forms.are_built_items.Given as goal

abbrev pub invariant-loop-depth : goal.invariant-loop-depth
invariant-loop-depth l = (k : ℕ) (i : Item Value) → k < l.depth → slice_get l.control k ≡ Some i → IsBuiltItem i
