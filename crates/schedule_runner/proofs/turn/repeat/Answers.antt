use Rattle.std.proofs.Common.{◌≡◌, ◌∙◌, arith, ◌-◌, ◌+◌}
use Rattle.schedule_runner.proofs.Played.{goes_once_more, ended_at, cut_at, plays_goes, plays_ends, ok_no_fault}
use Rattle.schedule_runner.proofs.turn.repeat.Goals as goal

pub loop-left-preserved : goal.loop-left-preserved
loop-left-preserved g c = record {
  within = omega arith;
  built = c.take_turn.ensures.built;
  played = goes_once_more c.args.m.now c.args.grant (c.args.count - c.loop-left.left) (c.args.count - (c.loop-left.left - 1)) c.args.running.now c.loop-left.running c.take_turn.new.running _ _ _ (omega arith) c.loop-left.invariant.played (plays_goes _ _ _ _ _ _ _ c.in-Ok-Goes.field-0-is c.in-Ok-Goes.ensures.plays);
  faults = c.in-Ok-Goes.ensures.not_counted (ok_no_fault _ _) ∙ c.loop-left.invariant.faults;
  late = λ f l. c.in-Ok-Goes.ensures.late (c.loop-left.invariant.faults ∙ f) (c.loop-left.invariant.late f l);
}

pub returns-in-Ok-Ends-clause-plays : goal.returns-in-Ok-Ends-clause-plays
returns-in-Ok-Ends-clause-plays g c = ended_at c.args.m.now c.args.grant (c.args.count - c.loop-left.left) c.args.count c.args.running.now c.loop-left.running c.take_turn.new.running c.in-Ok-Ends.end _ _ _ (omega arith) c.loop-left.invariant.played (plays_ends _ _ _ _ _ _ _ _ c.in-Ok-Ends.field-0-is c.in-Ok-Ends.ensures.plays)

pub returns-in-Err-clause-plays : goal.returns-in-Err-clause-plays
returns-in-Err-clause-plays g c = cut_at c.args.m.now c.args.grant (c.args.count - c.loop-left.left) c.args.count c.args.running.now c.loop-left.running c.take_turn.new.running c.in-Err.fault _ _ _ (omega arith) c.loop-left.invariant.played c.in-Err.ensures.plays
