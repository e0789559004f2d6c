use Rattle.std.specs.Prelude.{◌≡◌}
use Rattle.std.proofs.Common.{take}
use Rattle.cond_plan.proofs.applications.copied.Given as goal

abbrev pub invariant-loop-t : goal.invariant-loop-t
invariant-loop-t l = l.copy ≡ take l.t-index l.terms
