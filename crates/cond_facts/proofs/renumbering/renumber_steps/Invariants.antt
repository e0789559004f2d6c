use Rattle.std.specs.Prelude.{◌≡◌, take, map}
use Rattle.cond_facts.specs.FactRows.{renumbered}
use Rattle.cond_facts.proofs.renumbering.renumber_steps.Given as goal

abbrev pub invariant-loop-step : goal.invariant-loop-step
invariant-loop-step l = l.list ≡ map (renumbered l.fn.numbers l.fn.first) (take l.step-index l.fn.steps)
