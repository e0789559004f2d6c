use Rattle.schedule_runner.specs.Output.{grants_of}
use Rattle.schedule_runner.proofs.Over.{spent_is, ended_is, cut_is, spent_ends, spent_whole, spent_part}
use Rattle.schedule_runner.proofs.under_schedule.run_on.Goals as goal

pub returns-in-Ok-Goes-clause-ends : goal.returns-in-Ok-Goes-clause-ends
returns-in-Ok-Goes-clause-ends g c = spent_ends c.args.m.now (grants_of c.args.lines.now) (record { state = c.args.state; last = 0 }) _ _ _ c.spent.result (spent_is _ _ _ c.play_lines.new.running _ _ _ c.in-Ok-Goes.field-0-is c.in-Ok-Goes.ensures.plays) c.spent.ensures.ok

pub returns-in-Ok-Goes-clause-whole : goal.returns-in-Ok-Goes-clause-whole
returns-in-Ok-Goes-clause-whole g c = spent_whole c.args.m.now (grants_of c.args.lines.now) (record { state = c.args.state; last = 0 }) _ _ _ c.spent.result (spent_is _ _ _ c.play_lines.new.running _ _ _ c.in-Ok-Goes.field-0-is c.in-Ok-Goes.ensures.plays)

pub returns-in-Ok-Goes-clause-part : goal.returns-in-Ok-Goes-clause-part
returns-in-Ok-Goes-clause-part g c = spent_part c.args.m.now (grants_of c.args.lines.now) (record { state = c.args.state; last = 0 }) _ _ _ c.spent.result (spent_is _ _ _ c.play_lines.new.running _ _ _ c.in-Ok-Goes.field-0-is c.in-Ok-Goes.ensures.plays)

pub returns-in-Ok-Ends-clause-ends : goal.returns-in-Ok-Ends-clause-ends
returns-in-Ok-Ends-clause-ends g c = (ended_is _ _ _ c.play_lines.new.running _ _ _ _ c.in-Ok-Ends.field-0-is c.in-Ok-Ends.ensures.plays).ends

pub returns-in-Ok-Ends-clause-whole : goal.returns-in-Ok-Ends-clause-whole
returns-in-Ok-Ends-clause-whole g c = (ended_is _ _ _ c.play_lines.new.running _ _ _ _ c.in-Ok-Ends.field-0-is c.in-Ok-Ends.ensures.plays).whole

pub returns-clause-part : goal.returns-clause-part
returns-clause-part g c = cut_is c.args.m.now (grants_of c.args.lines.now) (record { state = c.args.state; last = 0 }) _ _ c.in-Err.ensures.plays
