use Rattle.std.proofs.Common.{◌≡◌, Some, false, slice_get, sym, rules, ◌∙◌}
use Rattle.machine_values.specs.Bits.{has_128_bits}
use Rattle.machine_step.specs.Changes.{begun, done}
use Rattle.machine_step.proofs.Plans.{plain_item, fault_agrees}
use Rattle.machine_step.proofs.plan.frame_plan.Goals as goal

pub returns-in-Ok : goal.returns-in-Ok
returns-in-Ok c = λ threads.
    let there : slice_get c.args.frame.now.control 0 ≡ Some c.in-Some.item.now = search rules in
    plain_item has_128_bits c.args.m.now c.args.thread threads c.args.heap.now c.args.frame.now c.in-Some.item.now there (sym c.if-is_mark.ensures)
    ∙ c.in-Ok.ensures threads false

pub returns-in-Err : goal.returns-in-Err
returns-in-Err c = λ threads.
    let there : slice_get c.args.frame.now.control 0 ≡ Some c.in-Some.item.now = search rules in
    fault_agrees _ _ c.in-Err.stop (λ d. done d c.args.heap.now (begun false c.args.frame.now)) _
    (plain_item has_128_bits c.args.m.now c.args.thread threads c.args.heap.now c.args.frame.now c.in-Some.item.now there (sym c.if-is_mark.ensures))
    (c.in-Err.ensures threads false)
