use Rattle.machine_laws.specs.SceneLaws.{stays_among}
use Rattle.machine_laws.proofs.laws.a_scene_over_objects_stays_among_them.Goals as goal

pub returns : goal.returns
returns c = stays_among
