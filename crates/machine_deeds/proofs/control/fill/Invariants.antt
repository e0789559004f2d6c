use Rattle.std.proofs.Common.{◌≡◌, ◌++◌, replicate}
use Rattle.py_syntax.specs.declared.Item.TheVariants.{Pass}
use Rattle.machine_deeds.proofs.control.fill.Given as goal

abbrev pub invariant-loop-filled : goal.invariant-loop-filled
invariant-loop-filled l = l.control ≡ replicate l.filled Pass ++ l.initial.control
