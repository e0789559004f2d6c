use Rattle.std.proofs.Common.{Err, ap}
use Rattle.nagini_cli.specs.RunAnswers.{bad_schedule, too_many_steps}
use Rattle.nagini_cli.proofs.prepare.prepare_module.Goals as goal

pub returns-in-Err-BadSchedule-clause-whole : goal.returns-in-Err-BadSchedule-clause-whole
returns-in-Err-BadSchedule-clause-whole c = λ bytes short spelled.
    let bad = c.in-Err-BadSchedule.ensures.bad c.in-Err-BadSchedule.line (ap Err c.in-Err-BadSchedule.field-0-is) in
    let said = c.in_ok-refuse_schedule-in-Err-BadSchedule.ensures in
    bad_schedule short c.args.small_module c.in-Err-BadSchedule.line spelled bad said.status_is said.text_is

pub returns-in-Err-ScheduleTooLong-clause-whole : goal.returns-in-Err-ScheduleTooLong-clause-whole
returns-in-Err-ScheduleTooLong-clause-whole c = λ bytes short spelled.
    let long = c.in-Err-ScheduleTooLong.ensures.long (ap Err c.in-Err-ScheduleTooLong.field-0-is) in
    let said = c.in_ok-too_many_steps-in-Err-ScheduleTooLong.ensures in
    too_many_steps short c.args.small_module long.0 spelled long.1 long.2 said.status_is said.text_is
