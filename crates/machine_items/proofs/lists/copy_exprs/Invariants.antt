use Rattle.std.proofs.Common.{◌≡◌, take}
use Rattle.machine_items.proofs.lists.copy_exprs.Given as goal

abbrev pub invariant-loop-e : goal.invariant-loop-e
invariant-loop-e l = l.copy ≡ take l.e-index l.all
