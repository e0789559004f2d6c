use Rattle.std.proofs.Common.{rules, ◌≡◌, subst, map, Some}
use Rattle.py_syntax.specs.declared.Value.{Value}
use Rattle.machine_values.specs.Agreement.{Agrees}
use Rattle.contract_reading.specs.Scenes.{scene_in}
use Rattle.contract_duties.specs.Listed.{duties_in}
use Rattle.contract_duties.proofs.Ended.{called}
use Rattle.contract_duties.proofs.entries.call_tests.Goals as goal

pub returns : goal.returns
returns c =
    let stored : c.as_slice.result.now ≡ map (λ (v : Value). Some v) c.args.args.now = search rules in
    subst (λ q. Agrees q c.bounded_duties.result duties_in)
    (called c.args.m.now c.args.t c.args.p c.args.caller.now c.args.args.now c.args.method.now c.args.heap.now c.of-view.result.heap.now (scene_in c.of-view.result) c.as_slice-2.result.now c.as_slice.result.now c.of-view.ensures.heap c.of-view.ensures.scene stored c.as_slice-2.ensures)
    c.bounded_duties.ensures
