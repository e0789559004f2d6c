use Rattle.schedule_runner.proofs.Verdicts.{one_schedule, one_line, not_both, an_answer}
use Rattle.schedule_runner.proofs.laws.a_text_reads_or_has_a_bad_line.Goals as goal

pub returns : goal.returns
returns c = record { one_schedule = one_schedule; one_line = one_line; not_both = not_both; an_answer = an_answer }
