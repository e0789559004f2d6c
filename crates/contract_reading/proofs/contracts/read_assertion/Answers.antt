use Rattle.std.proofs.Common.{◌≤◌, length, [], sym, subst, arith}
use Rattle.machine_model.specs.Reading as reading
use Rattle.machine_values.specs.Agreement.{Agrees}
use Rattle.machine_values.specs.Bits.{has_128_bits}
use Rattle.contract_reading.specs.Scenes.{scene_in}
use Rattle.contract_reading.specs.Openings.{opens_marked}
use Rattle.contract_reading.specs.Verdicts.{missed, held_by}
use Rattle.contract_reading.proofs.Openings.{none_open}
use Rattle.contract_reading.proofs.Marked.{read_kept, unmarked}
use Rattle.contract_reading.proofs.contracts.read_assertion.Goals as goal

pub returns : goal.returns
returns c =
    let objects = length c.args.view.heap.now in
    let held = held_by c.args.view.heap.now c.args.holder in
    let s = scene_in c.args.view in
    let few : c.openings.result ≤ reading.room c.args.m.now objects = omega (arith, c.openings.ensures) in
    let whole = reading.read_assertion has_128_bits c.args.m.now objects held s c.args.a.now in
    subst (λ r. Agrees whole r missed) (sym c.unmark.ensures)
    (unmarked (reading.judgement has_128_bits c.args.a.now (record { opens = opens_marked has_128_bits c.args.m.now s c.openings.result []; holds_duty = held }) s) whole c.judge.result missed
    (read_kept has_128_bits c.args.m.now objects c.openings.result few held s c.args.a.now) (subst (λ path. Agrees (reading.judgement has_128_bits c.args.a.now (record { opens = opens_marked has_128_bits c.args.m.now s c.openings.result path; holds_duty = held }) s) c.judge.result missed) none_open c.judge.ensures))
