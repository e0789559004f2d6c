use Rattle.nagini_cli.proofs.Answered.{TextLaws}
use Rattle.nagini_cli.proofs.OneRunAnswer.{ScheduleLaws, one_run_answer}
use Rattle.nagini_cli.proofs.SomeAnswer.{FrontLaws, some_run_answer}
use Rattle.nagini_cli.proofs.laws.a_run_has_one_answer.Goals as goal

pub returns : goal.returns
returns c =
    let small = c.a_spelled_module_is_small.ensures in
    let laws : TextLaws = record { one = c.a_text_has_one_answer.ensures; shape = small.forms } in
    let front : FrontLaws = record { some = c.each_text_has_an_answer.ensures; shape = small.forms; alone = small.is_main } in
    let said = c.a_text_reads_or_has_a_bad_line.ensures in
    let schedules : ScheduleLaws = record { one_schedule = said.one_schedule; one_line = said.one_line; not_both = said.not_both } in
    record { one = one_run_answer laws schedules; some = some_run_answer front said.an_answer }
