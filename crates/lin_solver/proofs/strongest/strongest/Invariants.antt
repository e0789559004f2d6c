use Rattle.std.specs.Prelude.{take, All, Contains}
use Rattle.lin_solver.specs.Numbers.{HaveRows, FollowsFrom, AreApart}
use Rattle.lin_solver.proofs.strongest.strongest.Given as goal

abbrev pub invariant-loop-number : goal.invariant-loop-number
invariant-loop-number l = record {
  among : All (Contains l.fn.numbers) l.kept;
  all : HaveRows l.fn.rows l.fn.steps (FollowsFrom l.fn.rows l.fn.steps l.kept) (take l.number-index l.fn.numbers);
  apart : AreApart l.fn.rows l.fn.steps l.kept;
}
