use Rattle.std.specs.Prelude.{◌≡◌, ◌++◌}
use Rattle.std.proofs.Common.{drop}
use Rattle.proof_checker.specs.Conditions.{literals_of}
use Rattle.cond_plan.specs.Listed.{of_literals, of_applications}
use Rattle.cond_plan.proofs.comparisons.comparisons_of.Given as goal

abbrev pub invariant-loop-i : goal.invariant-loop-i
invariant-loop-i l =
    l.listed ++ of_applications (drop l.i l.applications) ≡ of_literals 0 (literals_of l.c) ++ of_applications l.applications
