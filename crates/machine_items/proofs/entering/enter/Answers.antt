use Rattle.std.proofs.Common.{◌∷◌, drop, subst}
use Rattle.machine_model.specs.Items.{with_stack}
use Rattle.machine_deeds.specs.Deeds.{done}
use Rattle.machine_values.specs.Agreement.{Agrees}
use Rattle.machine_values.specs.Bits.{has_128_bits}
use Rattle.machine_items.specs.declared.entering.Duties.{Duties}
use Rattle.machine_items.specs.Deeds.{running, waiting_below}
use Rattle.machine_items.specs.Entries.{duties_read}
use Rattle.machine_items.proofs.Entrances.{enter_stops}
use Rattle.machine_items.proofs.entering.enter.Goals as goal

pub returns-in-Err : goal.returns-in-Err
returns-in-Err c =
    let caller = with_stack (drop c.args.values_dropped (running c.args.at).stack) (running c.args.at) in
    enter_stops has_128_bits c.args.m.now c.args._thread c.args.at.heap.now c.args.entry.place c.args.entry.seen c.args.entry.run c.args.entry.gives c.args.args.now caller (waiting_below c.args.at) c.in-Err.stop
    (λ (d : Duties). (d.measure, d.caps)) (λ d. done d c.args.at.heap.now (c.args.at.frame.now ∷ waiting_below c.args.at))
    (subst (λ x. Agrees (duties_read has_128_bits c.args.m.now c.args._thread c.args.at.heap.now c.args.entry.place c.args.entry.seen c.args.entry.run c.args.args.now caller) x (λ (d : Duties). (d.measure, d.caps))) c.in-Err.is c.requires)
