use Rattle.std.specs.Prelude.{pos, ◌≤ℤ◌, take, IfNone, IfSome}
use Rattle.lin_solver.specs.Numbers.{HaveRows}
use Rattle.lin_solver.specs.WayBack.{room, IsWorst}
use Rattle.lin_solver.proofs.worst.worst.Given as goal

-- the worst of the rows so far
abbrev pub invariant-loop-number : goal.invariant-loop-number
invariant-loop-number l = record {
  some : IfSome l.worst (IsWorst l.fn.rows l.fn.steps l.fn.point l.fn.var (take l.number-index l.fn.numbers));
  none : IfNone l.worst (HaveRows l.fn.rows l.fn.steps (λ r. pos 0 ≤ℤ room l.fn.point r l.fn.var) (take l.number-index l.fn.numbers));
}
