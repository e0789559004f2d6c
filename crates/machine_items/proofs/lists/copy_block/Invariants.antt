use Rattle.std.proofs.Common.{◌≡◌, take}
use Rattle.machine_items.proofs.lists.copy_block.Given as goal

abbrev pub invariant-loop-s : goal.invariant-loop-s
invariant-loop-s l = l.copy ≡ take l.s-index l.block
