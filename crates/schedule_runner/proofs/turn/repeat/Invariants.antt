use Rattle.std.proofs.Common.{◌≡◌, ◌-◌, ◌≤◌, replicate, false}
use Rattle.machine_step.specs.Built.{IsBuilt}
use Rattle.schedule_runner.specs.Playing.{GoesOn}
use Rattle.schedule_runner.proofs.turn.repeat.Given as goal

-- the grants so far are played, and no write has failed
abbrev pub invariant-loop-left : goal.invariant-loop-left
invariant-loop-left g l = record {
  within : l.left ≤ l.count;
  built : IsBuilt l.m l.running.state;
  played : GoesOn l.m (replicate (l.count - l.left) l.grant) l.initial.running l.running (g.O.Sink.written l.initial.out) (g.O.Sink.written l.out);
  faults : g.O.Sink.faults l.out ≡ g.O.Sink.faults l.initial.out;
  late : g.O.Sink.faults l.initial.out ≡ 0 → g.O.Sink.late l.initial.out ≡ false → g.O.Sink.late l.out ≡ false;
}

abbrev pub decreases-loop-left : goal.decreases-loop-left
decreases-loop-left g l = l.left
