use Rattle.std.specs.Prelude.{◌≡◌, take, All}
use Rattle.cond_plan.specs.Known.{compared}
use Rattle.cond_plan.proofs.assumed.are_assumed.Given as goal

-- the assumptions so far are others
abbrev pub invariant-loop-fact : goal.invariant-loop-fact
invariant-loop-fact l = All (λ f. ¬ (f ≡ compared l.how l.a l.b)) (take l.fact-index l.facts)
