use Rattle.std.specs.Prelude.{take, All}
use Rattle.cond_plan.specs.Needs.{IsSettled}
use Rattle.cond_plan.proofs.need.first_need.Given as goal

-- the comparisons so far are settled
abbrev pub invariant-loop-place : goal.invariant-loop-place
invariant-loop-place l = All (IsSettled l.p l.facts) (take l.place l.comparisons)
