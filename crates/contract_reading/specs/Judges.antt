-- What the code reads an assertion by.
use Rattle.machine_model.specs.Reading.{Judge}
use Rattle.machine_values.specs.Bits.{has_128_bits}
use Rattle.contract_reading.specs.declared.scene.View.{View}
use Rattle.contract_reading.specs.declared.assertions.Judging.{Judging}
use Rattle.contract_reading.specs.Scenes.{scene_in}
use Rattle.contract_reading.specs.Openings.{opened_in, opens_marked}
use Rattle.contract_reading.specs.Verdicts.{held_by}

abbrev pub judge_in : Judging → View → Judge
judge_in j v = record { opens = opens_marked has_128_bits j.module.now (scene_in v) j.left (opened_in j.path.now); holds_duty = held_by v.heap.now j.holder }
