use Rattle.std.proofs.Common.{subst}
use Rattle.machine_values.specs.Agreement.{Agrees}
use Rattle.contract_reading.specs.Scenes.{scene_in}
use Rattle.contract_duties.proofs.Ended.{ended_normally, ended_by}
use Rattle.contract_duties.proofs.exits.end_tests.Goals as goal

pub returns-in-Normal : goal.returns-in-Normal
returns-in-Normal c =
    subst (λ q. Agrees q c.test_atoms.result (λ u. tt))
    (ended_normally c.args.m.now c.args.t c.args.end c.in-Normal.field-0 c.args.p c.args.method.now c.args.view.heap.now (scene_in c.args.view) c.as_slice-all.result.now c.in-Normal.is c.as_slice-all.ensures)
    c.test_atoms.ensures

pub returns-in-Some : goal.returns-in-Some
returns-in-Some c =
    subst (λ q. Agrees q c.test_assertion.result (λ u. tt))
    (ended_by c.args.m.now c.args.t c.args.end c.in-Raised.c c.args.p c.args.method.now c.args.view.heap.now (scene_in c.args.view) c.as_slice.result.now c.in-Some.a.now c.in-Raised.is c.as_slice.ensures c.in-Some.ensures)
    c.test_assertion.ensures
