use Rattle.std.proofs.Common.{◌≡◌, drop}
use Rattle.contract_reading.specs.Scenes.{scene_in}
use Rattle.contract_reading.proofs.Behind.{behind, values_read}
use Rattle.contract_reading.proofs.arguments.values_of.Given as goal

abbrev pub invariant-loop-e : goal.invariant-loop-e
invariant-loop-e l = behind l.values (values_read (scene_in l.view) (drop l.e-index l.all)) ≡ values_read (scene_in l.view) l.all
