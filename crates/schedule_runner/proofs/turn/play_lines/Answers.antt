use Rattle.std.proofs.Common.{◌≡◌, ◌∙◌, arith}
use Rattle.schedule_runner.proofs.Played.{goes_line, ended_line, cut_line, plays_goes, plays_ends, ok_no_fault}
use Rattle.schedule_runner.proofs.turn.play_lines.Goals as goal

pub loop-line-preserved : goal.loop-line-preserved
loop-line-preserved g c = record {
  built = c.play_line.ensures.built;
  played = goes_line c.args.m.now c.args.lines.now c.loop-line.line-index _ c.args.running.now c.loop-line.running c.play_line.new.running _ _ _ (omega arith) c.loop-line.invariant.played (plays_goes _ _ _ _ _ _ _ c.in-Ok-Goes.field-0-is c.in-Ok-Goes.ensures.plays);
  faults = c.in-Ok-Goes.ensures.not_counted (ok_no_fault _ _) ∙ c.loop-line.invariant.faults;
  late = λ f l. c.in-Ok-Goes.ensures.late (c.loop-line.invariant.faults ∙ f) (c.loop-line.invariant.late f l);
}

pub returns-in-Ok-Ends-clause-plays : goal.returns-in-Ok-Ends-clause-plays
returns-in-Ok-Ends-clause-plays g c = ended_line c.args.m.now c.args.lines.now c.loop-line.line-index _ c.args.running.now c.loop-line.running c.play_line.new.running c.in-Ok-Ends.end _ _ _ (omega arith) c.loop-line.invariant.played (plays_ends _ _ _ _ _ _ _ _ c.in-Ok-Ends.field-0-is c.in-Ok-Ends.ensures.plays)

pub returns-in-Err-clause-plays : goal.returns-in-Err-clause-plays
returns-in-Err-clause-plays g c = cut_line c.args.m.now c.args.lines.now c.loop-line.line-index _ c.args.running.now c.loop-line.running c.play_line.new.running c.in-Err.fault _ _ _ (omega arith) c.loop-line.invariant.played c.in-Err.ensures.plays
