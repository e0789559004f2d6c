use Rattle.std.proofs.Common.{◌≡◌, Some, false, slice_get, rules}
use Rattle.machine_values.specs.Bits.{has_128_bits}
use Rattle.machine_step.proofs.Plans.{running_frame, thread_agrees}
use Rattle.machine_step.proofs.plan.thread_plan.Goals as goal

pub returns-in-Some-clause-plan : goal.returns-in-Some-clause-plan
returns-in-Some-clause-plan c = λ s same.
    let there : slice_get c.args.running.now.frames 0 ≡ Some c.in-Some.frame.now = search rules in
    let unended : c.args.running.now.ended ≡ false = search rules in
    thread_agrees has_128_bits c.args.m.now c.args.thread s c.args.heap.now c.args.running.now c.in-Some.frame.now c.frame_plan.result same unended
    (running_frame c.args.m.now c.args.running.now c.in-Some.frame.now c.requires there) (c.frame_plan.ensures s.threads)
