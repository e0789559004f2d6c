use Rattle.std.specs.Prelude.{ℕ, ◌<◌}
use Rattle.cond_plan.specs.Known.{AreCongruentFrom}
use Rattle.cond_plan.proofs.repair.first_repair.Given as goal

-- the applications so far are congruent to each later one
abbrev pub invariant-loop-i : goal.invariant-loop-i
invariant-loop-i l = (n : ℕ) → n < l.i → AreCongruentFrom l.p l.applications n
