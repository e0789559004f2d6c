use Rattle.std.proofs.Common.{◌≡◌, ◌-◌, ◌^◌, take, min}
use Rattle.schedule_runner.specs.ScheduleText.{steps_of}
use Rattle.schedule_runner.proofs.reader.is_too_long.Given as goal

abbrev pub invariant-loop-line : goal.invariant-loop-line
invariant-loop-line l = l.sum ≡ min (steps_of (take l.line-index l.lines)) (2 ^ 64 - 1)
