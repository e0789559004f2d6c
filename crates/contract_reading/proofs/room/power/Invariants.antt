use Rattle.std.proofs.Common.{◌≡◌, ◌^◌}
use Rattle.contract_reading.proofs.room.power.Given as goal

abbrev pub invariant-loop : goal.invariant-loop
invariant-loop l = l.product ≡ l.base ^ l.counter
