use Rattle.std.specs.Prelude.{◌≡◌, [], ◌∷◌, ◌++◌}
use Rattle.std.proofs.Common.{drop}
use Rattle.proof_checker.specs.Conditions.{literals_of}
use Rattle.cond_plan.specs.Listed.{of_literals}
use Rattle.cond_plan.proofs.comparisons.of_all_literals.Given as goal

abbrev pub invariant-loop-i : goal.invariant-loop-i
invariant-loop-i l = l.listed ++ of_literals l.i (drop l.i l.hyps ++ l.c.goal ∷ []) ≡ of_literals 0 (literals_of l.c)
