use Rattle.std.proofs.Common.{subst}
use Rattle.machine_values.specs.Agreement.{Agrees}
use Rattle.contract_reading.specs.Scenes.{scene_in}
use Rattle.contract_duties.specs.Ends.{ending_in}
use Rattle.contract_duties.proofs.Ended.{ended}
use Rattle.contract_duties.proofs.exits.exit_tests.Goals as goal

pub returns : goal.returns
returns c =
    subst (λ q. Agrees q c.end_tests.result (λ u. tt))
    (ended c.args.m.now c.args.t (ending_in c.args.end) c.args.p c.args.method.now c.args.heap.now c.of-view.result.heap.now c.as_slice-before.result.now c.args.frame.now (scene_in c.of-view.result) c.as_slice-store.result.now c.value_of.result c.of-view.ensures.heap c.of-view.ensures.scene c.as_slice-before.ensures c.as_slice-store.ensures c.value_of.ensures)
    c.end_tests.ensures
