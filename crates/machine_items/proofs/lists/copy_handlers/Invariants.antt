use Rattle.std.proofs.Common.{◌≡◌, take}
use Rattle.machine_items.proofs.lists.copy_handlers.Given as goal

abbrev pub invariant-loop-class : goal.invariant-loop-class
invariant-loop-class l = l.copy ≡ take l.class-index l.handlers
