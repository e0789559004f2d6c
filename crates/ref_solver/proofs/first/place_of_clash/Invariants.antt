use Rattle.std.proofs.Common.{◌-◌}
use Rattle.ref_solver.specs.Clashing.{IsBetween}
use Rattle.ref_solver.proofs.first.place_of_clash.Given as goal

abbrev pub invariant-loop-high : goal.invariant-loop-high
invariant-loop-high l = IsBetween l.lits l.low l.high

abbrev pub decreases-loop-high : goal.decreases-loop-high
decreases-loop-high l = l.high - l.low
