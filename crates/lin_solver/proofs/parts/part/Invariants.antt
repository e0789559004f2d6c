use Rattle.std.specs.Prelude.{◌+◌, take, All}
use Rattle.lin_solver.specs.Numbers.{HaveRows, IsLive, BoundsAbove, BoundsBelow}
use Rattle.lin_solver.specs.Levels.{IsInPart}
use Rattle.lin_solver.proofs.parts.part.Given as goal

abbrev pub invariant-loop-number : goal.invariant-loop-number
invariant-loop-number l = record {
  above : HaveRows l.fn.rows l.fn.steps (BoundsAbove l.fn.rows l.fn.var) l.above;
  below : HaveRows l.fn.rows l.fn.steps (BoundsBelow l.fn.rows l.fn.var) l.below;
  without : HaveRows l.fn.rows l.fn.steps (IsLive l.fn.rows (l.fn.var + 1)) l.without;
  all : All (IsInPart l.above l.below l.without) (take l.number-index l.fn.live);
}
