use Rattle.std.specs.Prelude.{◌≤◌, length, drop}
use Rattle.lin_solver.proofs.DescentLemmas.{Reaches}
use Rattle.lin_solver.proofs.way_back.way_back.Given as goal

abbrev pub invariant-loop-left : goal.invariant-loop-left
invariant-loop-left l = record {
  within : l.left ≤ length l.fn.levels;
  reaches : Reaches l.fn.rows l.fn.steps (drop l.left l.fn.levels) l.point;
}

abbrev pub decreases-loop-left : goal.decreases-loop-left
decreases-loop-left l = l.left
