use Rattle.std.proofs.Common.{◌≡◌, ◌++◌, drop}
use Rattle.schedule_runner.specs.Output.{unfinished_from}
use Rattle.schedule_runner.proofs.running.unfinished.Given as goal

-- the numbers so far, and those of the threads that are left
abbrev pub invariant-loop-at : goal.invariant-loop-at
invariant-loop-at l = unfinished_from 0 l.threads ≡ l.numbers ++ unfinished_from l.at (drop l.at l.threads)
