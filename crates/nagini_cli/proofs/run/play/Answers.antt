use Rattle.nagini_cli.specs.RunAnswers.{run_of}
use Rattle.nagini_cli.proofs.Plays.{part_of_end}
use Rattle.nagini_cli.proofs.run.play.Goals as goal

pub returns-in-Ok-clause-part : goal.returns-in-Ok-clause-part
returns-in-Ok-clause-part g c = λ cut.
    part_of_end c.told_end.result (run_of c.args.small_module.now c.args.schedule.now.lines) c.in-Ok.end _ _ _ c.in-Ok.ensures.ends c.in-Ok.ensures.whole c.told_end.ensures (c.finish.ensures.part cut) c.finish.ensures.nothing
