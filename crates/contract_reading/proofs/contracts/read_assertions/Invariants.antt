use Rattle.std.proofs.Common.{◌≡◌, drop, length}
use Rattle.machine_model.specs.Reading.{read_assertions}
use Rattle.machine_values.specs.Bits.{has_128_bits}
use Rattle.contract_reading.specs.Scenes.{scene_in}
use Rattle.contract_reading.specs.Verdicts.{held_by}
use Rattle.contract_reading.proofs.contracts.read_assertions.Given as goal

abbrev pub invariant-loop-a : goal.invariant-loop-a
invariant-loop-a l = read_assertions has_128_bits l.m (length l.view.heap.now) (held_by l.view.heap.now l.holder) (scene_in l.view) (drop l.a-index l.all) ≡ read_assertions has_128_bits l.m (length l.view.heap.now) (held_by l.view.heap.now l.holder) (scene_in l.view) l.all
