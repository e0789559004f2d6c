use Rattle.schedule_runner.proofs.Played.{turn_went, turn_failed}
use Rattle.schedule_runner.proofs.turn.take_turn.Goals as goal

pub returns-in-Ok-Went-clause-plays : goal.returns-in-Ok-Went-clause-plays
returns-in-Ok-Went-clause-plays g c = turn_went c.args.m.now c.args.grant c.args.running.now c.step_of.new.s c.thread_for-thread.result c.in-Ok-Went.field-0 c.in-Ok-Went.trace c.go_on.result _ _ c.requires.goes c.thread_for-thread.ensures c.in-Ok-Went.field-0-is c.in-Ok-Went.ensures.step c.go_on.ensures.shown

pub returns-in-Ok-Failed-clause-plays : goal.returns-in-Ok-Failed-clause-plays
returns-in-Ok-Failed-clause-plays g c = turn_failed c.args.m.now c.args.grant c.args.running.now c.step_of.new.s c.thread_for-thread.result c.in-Ok-Failed.field-0 c.in-Ok-Failed.kind c.in-Ok-Failed.place c.stopped.result _ c.requires.goes c.thread_for-thread.ensures c.in-Ok-Failed.field-0-is c.in-Ok-Failed.ensures.step c.stopped.ensures.ok
