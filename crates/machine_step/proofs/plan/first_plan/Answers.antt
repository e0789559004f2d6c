use Rattle.std.proofs.Common.{◌≡◌, Some, true, false, slice_get, rules, ◌∙◌}
use Rattle.std.specs.Prelude.{is_none}
use Rattle.machine_values.specs.Bits.{has_128_bits}
use Rattle.machine_step.specs.Changes.{begun, done}
use Rattle.machine_step.proofs.Plans.{first_item, fault_agrees}
use Rattle.machine_step.proofs.plan.first_plan.Goals as goal

pub returns-in-Ok : goal.returns-in-Ok
returns-in-Ok c = λ threads.
    let there : slice_get c.args.frame.now.control 1 ≡ Some c.in-Some.item.now = search rules in
    let method : is_none (slice_get c.args.m.now.methods c.args.frame.now.method) ≡ false = search rules in
    first_item has_128_bits c.args.m.now c.args.thread threads c.args.heap.now c.args.frame.now c.in-Some.item.now c.requires.first there c.requires.built.conditions method
    ∙ c.in-Ok.ensures threads true

pub returns-in-Err : goal.returns-in-Err
returns-in-Err c = λ threads.
    let there : slice_get c.args.frame.now.control 1 ≡ Some c.in-Some.item.now = search rules in
    let method : is_none (slice_get c.args.m.now.methods c.args.frame.now.method) ≡ false = search rules in
    fault_agrees _ _ c.in-Err.stop (λ d. done d c.args.heap.now (begun true c.args.frame.now)) _
    (first_item has_128_bits c.args.m.now c.args.thread threads c.args.heap.now c.args.frame.now c.in-Some.item.now c.requires.first there c.requires.built.conditions method)
    (c.in-Err.ensures threads true)
