use Rattle.std.proofs.Common.{◌≡◌, take}
use Rattle.machine_items.proofs.entering.copy_heap.Given as goal

abbrev pub invariant-loop-object : goal.invariant-loop-object
invariant-loop-object l = l.copy ≡ take l.object-index l.heap
