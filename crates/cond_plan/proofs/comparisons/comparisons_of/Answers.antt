use Rattle.std.specs.Prelude.{◌++◌}
use Rattle.proof_checker.specs.Conditions.{literals_of}
use Rattle.cond_plan.specs.Listed.{of_literals, of_applications}
use Rattle.cond_plan.proofs.Comparing.{are_comparisons, nothing_left}
use Rattle.cond_plan.proofs.comparisons.comparisons_of.Goals as goal

pub returns : goal.returns
returns c =
    let k = c.args.c.now in
    let fs = c.args.applications.now in
    are_comparisons k fs c.loop-i.listed c.requires.sorted c.requires.applications (nothing_left c.loop-i.listed (of_literals 0 (literals_of k) ++ of_applications fs) fs c.loop-i.i c.loop-i-test.false c.loop-i.invariant)
