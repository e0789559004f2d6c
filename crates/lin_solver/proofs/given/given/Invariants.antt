use Rattle.std.specs.Prelude.{◌≡◌, ℕ, ◌<◌, Contains}
use Rattle.lin_solver.specs.Numbers.{HaveRows, IsLive}
use Rattle.lin_solver.proofs.given.given.Given as goal

abbrev pub invariant-loop-number : goal.invariant-loop-number
invariant-loop-number l = record {
  same : l.steps ≡ l.fn.steps;
  live : HaveRows l.fn.rows l.fn.steps (IsLive l.fn.rows 0) l.numbers;
  all : (i : ℕ) → i < l.number → Contains l.numbers i;
}
