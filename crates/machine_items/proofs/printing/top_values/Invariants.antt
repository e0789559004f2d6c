use Rattle.std.proofs.Common.{◌≡◌, ◌-◌, drop}
use Rattle.machine_model.specs.Frames.{pop_arguments, pop_onto}
use Rattle.machine_items.proofs.printing.top_values.Given as goal

abbrev pub invariant-loop-depth : goal.invariant-loop-depth
invariant-loop-depth l = pop_arguments l.count l.stack ≡ pop_onto (l.count - l.depth) l.values (drop l.depth l.stack)
