use Rattle.std.proofs.Common.{◌≡◌, take, false}
use Rattle.machine_step.specs.Built.{IsBuilt}
use Rattle.schedule_runner.specs.Output.{grants_of}
use Rattle.schedule_runner.specs.Playing.{GoesOn}
use Rattle.schedule_runner.proofs.turn.play_lines.Given as goal

-- the lines so far are played, and no write has failed
abbrev pub invariant-loop-line : goal.invariant-loop-line
invariant-loop-line g l = record {
  built : IsBuilt l.m l.running.state;
  played : GoesOn l.m (grants_of (take l.line-index l.lines)) l.initial.running l.running (g.O.Sink.written l.initial.out) (g.O.Sink.written l.out);
  faults : g.O.Sink.faults l.out ≡ g.O.Sink.faults l.initial.out;
  late : g.O.Sink.faults l.initial.out ≡ 0 → g.O.Sink.late l.initial.out ≡ false → g.O.Sink.late l.out ≡ false;
}
