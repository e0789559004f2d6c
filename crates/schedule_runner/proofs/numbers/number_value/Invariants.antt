use Rattle.std.proofs.Common.{◌≡◌, ◌<◌, ◌^◌, take}
use Rattle.schedule_runner.specs.Reading.{number_value}
use Rattle.schedule_runner.proofs.numbers.number_value.Given as goal

abbrev pub invariant-loop-b : goal.invariant-loop-b
invariant-loop-b l = record { value : l.n ≡ number_value (take l.b-index l.bytes); small : l.n < 10 ^ l.b-index }
