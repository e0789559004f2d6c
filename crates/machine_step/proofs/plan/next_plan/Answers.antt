use Rattle.std.proofs.Common.{◌≡◌, Some, slice_get, sym, subst, rules}
use Rattle.machine_values.specs.Bits.{has_128_bits}
use Rattle.machine_values.specs.Agreement.{Agrees}
use Rattle.machine_model.specs.Steps.{thread_step}
use Rattle.machine_step.specs.Changes.{planned}
use Rattle.machine_step.proofs.Plans.{state_agrees}
use Rattle.machine_step.proofs.plan.next_plan.Goals as goal

pub returns-in-Some-clause-plan : goal.returns-in-Some-clause-plan
returns-in-Some-clause-plan c =
    let there : slice_get c.args.s.now.threads c.args.thread ≡ Some c.in-Some.running.now = search rules in
    let agrees : Agrees (thread_step has_128_bits c.args.m.now c.args.thread c.args.s.now c.in-Some.running.now) c.thread_plan.result (λ p. planned p c.args.s.now.heap c.in-Some.running.now.frames) =
    subst (λ h. Agrees (thread_step has_128_bits c.args.m.now c.args.thread c.args.s.now c.in-Some.running.now) c.thread_plan.result (λ p. planned p h c.in-Some.running.now.frames)) c.as_slice.ensures (c.thread_plan.ensures.plan c.args.s.now (sym c.as_slice.ensures)) in
    state_agrees has_128_bits c.args.m.now c.args.thread c.args.s.now c.in-Some.running.now c.thread_plan.result there agrees
