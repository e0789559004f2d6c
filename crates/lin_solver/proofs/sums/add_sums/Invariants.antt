use Rattle.std.specs.Prelude.{◌+◌, take, map, Some}
use Rattle.lin_rows.specs.Steps.{StepsHold}
use Rattle.lin_solver.specs.Numbers.{HaveRows, IsLive, AreCovered, IsPrefix}
use Rattle.lin_solver.proofs.sums.add_sums.Given as goal

abbrev pub invariant-loop-left : goal.invariant-loop-left
invariant-loop-left l = record {
  kept : StepsHold (map Some l.fn.rows) l.fn.steps → StepsHold (map Some l.fn.rows) l.steps;
  grown : IsPrefix l.fn.steps l.steps;
  more : IsPrefix l.fn.next l.next;
  live : HaveRows l.fn.rows l.steps (IsLive l.fn.rows (l.fn.var + 1)) l.next;
  covered : AreCovered l.fn.rows l.steps l.fn.var l.next (take l.left-index l.fn.above) l.fn.below;
}
