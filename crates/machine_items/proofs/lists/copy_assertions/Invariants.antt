use Rattle.std.proofs.Common.{◌≡◌, take}
use Rattle.machine_items.proofs.lists.copy_assertions.Given as goal

abbrev pub invariant-loop-a : goal.invariant-loop-a
invariant-loop-a l = l.copy ≡ take l.a-index l.all
