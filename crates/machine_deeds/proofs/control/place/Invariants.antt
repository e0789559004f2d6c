use Rattle.std.proofs.Common.{◌≡◌, ◌≤◌, ◌+◌, length}
use Rattle.machine_deeds.proofs.Stacks.{placed}
use Rattle.machine_deeds.proofs.control.place.Given as goal

abbrev pub invariant-loop-depth : goal.invariant-loop-depth
invariant-loop-depth g l =
    (placed l.members l.depth l.stack ≡ placed l.initial.members 0 l.initial.stack)
    × (l.depth + length l.members ≡ length l.initial.members)
    × (length l.initial.members ≤ length l.stack)
