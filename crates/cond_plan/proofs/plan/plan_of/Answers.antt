use Rattle.std.proofs.Common.{subst}
use Rattle.cond_plan.specs.Plans.{AreComparisons}
use Rattle.cond_plan.proofs.Sorted.{all_numbers}
use Rattle.cond_plan.proofs.plan.plan_of.Goals as goal

pub returns : goal.returns
returns c =
    let k = c.args.c.now in
    let fs = c.in_ok-applications.applications in
    let ks = c.in_ok-comparisons.comparisons in record {
      applications = c.in_ok-applications.ensures;
      comparisons = subst (λ gs. AreComparisons k gs ks) c.as_slice.ensures c.in_ok-comparisons.ensures;
      numbers = all_numbers k fs c.requires.sorted c.in_ok-applications.ensures.placed;
    }
