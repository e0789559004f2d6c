use Rattle.std.specs.Prelude.{◌≡◌, ◌++◌}
use Rattle.std.proofs.Common.{drop}
use Rattle.cond_plan.specs.Listed.{of_others}
use Rattle.cond_plan.proofs.comparisons.add_others.Given as goal

abbrev pub invariant-loop-g : goal.invariant-loop-g
invariant-loop-g l = l.listed ++ of_others l.f (drop l.g-index l.others) ≡ l.fn.listed ++ of_others l.f l.others
