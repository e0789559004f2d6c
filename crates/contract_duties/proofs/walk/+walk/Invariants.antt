use Rattle.std.proofs.Common.{◌≡◌, map, drop}
use Rattle.machine_model.specs.Duties as duties
use Rattle.machine_values.specs.Bits.{has_128_bits}
use Rattle.contract_reading.specs.Scenes.{scene_in}
use Rattle.contract_duties.specs.Listed.{duties_in, added, test_by}
use Rattle.contract_duties.proofs.walk.+walk.Given as goal

abbrev pub invariant-walk_all-loop-a : goal.invariant-walk_all-loop-a
invariant-walk_all-loop-a l =
    added (duties_in l.found) (duties.walk_all (map (duties.walk has_128_bits) (drop l.a-index l.all)) (test_by l.bounds) (scene_in l.view))
    ≡ added (duties_in l.fn.found) (duties.walk_all (map (duties.walk has_128_bits) l.all) (test_by l.bounds) (scene_in l.view))
