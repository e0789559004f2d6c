use Rattle.std.proofs.Common.{◌≤◌, length, Bool, [], sym, subst, arith}
use Rattle.machine_model.specs.Reading as reading
use Rattle.machine_values.specs.Agreement.{Agrees}
use Rattle.machine_values.specs.Bits.{has_128_bits}
use Rattle.contract_reading.specs.Scenes.{scene_in}
use Rattle.contract_reading.specs.Openings.{opens_marked}
use Rattle.contract_reading.proofs.Openings.{none_open}
use Rattle.contract_reading.proofs.Marked.{opened_kept_here, unmarked}
use Rattle.contract_reading.proofs.contracts.open_instance.Goals as goal

pub returns : goal.returns
returns c =
    let objects = length c.args.view.heap.now in
    let s = scene_in c.args.view in
    let few : c.openings.result ≤ reading.room c.args.m.now objects = omega (arith, c.openings.ensures) in
    let whole = reading.opens_within has_128_bits c.args.m.now s (reading.room c.args.m.now objects) [] c.args.q c.args.vs.now in
    subst (λ r. Agrees whole r (λ (b : Bool). b)) (sym c.unmark.ensures)
    (unmarked (opens_marked has_128_bits c.args.m.now s c.openings.result [] c.args.q c.args.vs.now) whole c.opens.result (λ (b : Bool). b)
    (opened_kept_here has_128_bits c.args.m.now objects c.openings.result few s c.args.q c.args.vs.now) (subst (λ path. Agrees (opens_marked has_128_bits c.args.m.now s c.openings.result path c.args.q c.args.vs.now) c.opens.result (λ (b : Bool). b)) none_open c.opens.ensures))
