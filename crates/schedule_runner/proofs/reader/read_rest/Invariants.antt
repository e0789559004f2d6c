use Rattle.std.proofs.Common.{◌≡◌, length}
use Rattle.schedule_runner.specs.ScheduleText.{lines_of}
use Rattle.schedule_runner.specs.Reading.{scan}
use Rattle.schedule_runner.proofs.reader.read_rest.Given as goal

abbrev pub invariant-loop-rest : goal.invariant-loop-rest
invariant-loop-rest l = scan l.line l.said (lines_of l.rest) ≡ scan l.initial.line l.initial.said (lines_of l.initial.rest)

abbrev pub decreases-loop-rest : goal.decreases-loop-rest
decreases-loop-rest l = length l.rest
