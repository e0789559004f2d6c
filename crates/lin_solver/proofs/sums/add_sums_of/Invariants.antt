use Rattle.std.specs.Prelude.{◌+◌, take, map, Some, All}
use Rattle.lin_rows.specs.Steps.{StepsHold}
use Rattle.lin_solver.specs.Numbers.{HaveRows, IsLive, IsCovered, IsPrefix}
use Rattle.lin_solver.proofs.sums.add_sums_of.Given as goal

abbrev pub invariant-loop-right : goal.invariant-loop-right
invariant-loop-right l = record {
  kept : StepsHold (map Some l.fn.rows) l.fn.steps → StepsHold (map Some l.fn.rows) l.steps;
  grown : IsPrefix l.fn.steps l.steps;
  more : IsPrefix l.fn.next l.next;
  live : HaveRows l.fn.rows l.steps (IsLive l.fn.rows (l.fn.var + 1)) l.next;
  covered : All (IsCovered l.fn.rows l.steps l.fn.var l.next l.fn.left) (take l.right-index l.fn.below);
}
