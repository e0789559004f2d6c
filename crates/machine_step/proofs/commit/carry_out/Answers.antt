use Rattle.std.proofs.Common.{ap, sym, ◌∙◌}
use Rattle.machine_model.specs.Steps.{state_after}
use Rattle.machine_step.specs.Changes.{frames_at, planned}
use Rattle.machine_step.proofs.commit.carry_out.Goals as goal

pub returns-in-Ends-clause-ok : goal.returns-in-Ends-clause-ok
returns-in-Ends-clause-ok c =
    c.end_thread.ensures c.args.plan.first
    ∙ ap (λ d. state_after c.args.s.now c.args.thread (planned (record { first = c.args.plan.first; deed = d }) c.args.s.now.heap (frames_at c.args.s.now c.args.thread))) (sym c.in-Ends.is)
