use Rattle.std.specs.Prelude.{◌≡◌, map, All}
use Rattle.std.proofs.Common.{take}
use Rattle.cond_plan.specs.Applied.{application_of}
use Rattle.cond_plan.specs.Plans.{IsPlaced}
use Rattle.cond_plan.proofs.Counted.{applications}
use Rattle.cond_plan.proofs.applications.applications_of.Given as goal

abbrev pub invariant-loop-n : goal.invariant-loop-n
invariant-loop-n l = record {
  listed : map application_of l.all ≡ take l.n (applications l.c);
  placed : All (IsPlaced l.c) l.all;
}
