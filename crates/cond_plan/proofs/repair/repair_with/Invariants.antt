use Rattle.std.specs.Prelude.{ℕ, ◌<◌}
use Rattle.cond_plan.specs.declared.plan.Applied.{Applied}
use Rattle.cond_plan.specs.Needs.{ArePairAt}
use Rattle.cond_plan.specs.Known.{IsCongruentPairAt}
use Rattle.cond_plan.proofs.repair.repair_with.Given as goal

-- the application is congruent to those so far
abbrev pub invariant-loop-j : goal.invariant-loop-j
invariant-loop-j l =
    (n : ℕ) → n < l.j → (f g : Applied) → ArePairAt l.applications l.i n f g → IsCongruentPairAt l.p f g
