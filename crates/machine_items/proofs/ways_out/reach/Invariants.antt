use Rattle.std.proofs.Common.{◌≡◌, ◌≤◌, drop}
use Rattle.py_syntax.specs.Control.{unwind}
use Rattle.machine_items.specs.Ways.{counted, more}
use Rattle.machine_items.proofs.ways_out.reach.Given as goal

abbrev pub invariant-loop-depth : goal.invariant-loop-depth
invariant-loop-depth l =
    (counted (unwind l.w (drop l.from l.control)) ≡ more l.turns (counted (unwind l.w (drop l.depth l.control))))
    × (l.turns ≤ l.depth)
