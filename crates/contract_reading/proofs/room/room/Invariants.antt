use Rattle.std.proofs.Common.{◌≡◌, ◌+◌, drop}
use Rattle.machine_model.specs.Reading.{room}
use Rattle.contract_reading.proofs.Rooms.{room_for}
use Rattle.contract_reading.proofs.room.room.Given as goal

abbrev pub invariant-loop-pred : goal.invariant-loop-pred
invariant-loop-pred l = l.total + room_for l.objects (drop l.pred-index l.m.predicates) ≡ room l.m l.objects
