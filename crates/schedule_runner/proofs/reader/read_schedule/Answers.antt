use Rattle.std.proofs.Common.{◌≡◌, ◌<◌, ◌≤◌, ℕ, List, Err, IfOk, Result, sym, subst, ◌∙◌}
use Rattle.schedule_runner.specs.declared.schedule.Schedule.{Schedule}
use Rattle.schedule_runner.specs.declared.schedule.TheConstants.{STEP_LIMIT}
use Rattle.schedule_runner.specs.declared.fault.ScheduleFault.{ScheduleFault}
use Rattle.schedule_runner.specs.declared.fault.ScheduleFault.TheVariants.{BadSchedule, ScheduleTooLong}
use Rattle.schedule_runner.specs.ScheduleText.{ReadsAs, steps_of}
use Rattle.schedule_runner.specs.Reading.{OkOrNoMemory, ErrOrNoMemory}
use Rattle.schedule_runner.proofs.Verdicts.{told, read_from, too_long_from, first_bad_from}
use Rattle.schedule_runner.proofs.reader.read_schedule.Goals as goal

pub returns-clause-reads : goal.returns-clause-reads
returns-clause-reads c = subst (λ r. IfOk r (λ s. ReadsAs c.args.text.now s.lines)) (sym c.limited.ensures) (told c.read_text.result c.args.text.now c.read_text.ensures).reads

pub returns-clause-few : goal.returns-clause-few
returns-clause-few c = subst (λ r. IfOk r (λ s. steps_of s.lines ≤ STEP_LIMIT)) (sym c.limited.ensures) (told c.read_text.result c.args.text.now c.read_text.ensures).few

pub returns-clause-read : goal.returns-clause-read
returns-clause-read c = λ all is few. subst (λ r. OkOrNoMemory r all) (sym c.limited.ensures) (read_from c.read_text.result c.args.text.now c.read_text.ensures all is few)

pub returns-clause-bad : goal.returns-clause-bad
returns-clause-bad c = λ n e. (told c.read_text.result c.args.text.now c.read_text.ensures).bad n (sym c.limited.ensures ∙ e)

pub returns-clause-first_bad : goal.returns-clause-first_bad
returns-clause-first_bad c = λ n is. subst (λ r. ErrOrNoMemory r (BadSchedule n)) (sym c.limited.ensures) (first_bad_from c.read_text.result c.args.text.now c.read_text.ensures n is)

pub returns-clause-long : goal.returns-clause-long
returns-clause-long c = λ e. (told c.read_text.result c.args.text.now c.read_text.ensures).long (sym c.limited.ensures ∙ e)

pub returns-clause-too_long : goal.returns-clause-too_long
returns-clause-too_long c = λ all is long. subst (λ r. ErrOrNoMemory r ScheduleTooLong) (sym c.limited.ensures) (too_long_from c.read_text.result c.args.text.now c.read_text.ensures all is long)
