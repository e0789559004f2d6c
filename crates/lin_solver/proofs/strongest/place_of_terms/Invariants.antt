use Rattle.std.specs.Prelude.{◌≢◌, take}
use Rattle.lin_solver.specs.Numbers.{HaveRows}
use Rattle.lin_solver.proofs.strongest.place_of_terms.Given as goal

abbrev pub invariant-loop-at : goal.invariant-loop-at
invariant-loop-at l = HaveRows l.fn.rows l.fn.steps (λ s. s.coefs ≢ l.fn.row.coefs) (take l.at l.fn.numbers)
