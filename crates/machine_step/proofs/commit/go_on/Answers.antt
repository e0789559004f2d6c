use Rattle.machine_step.proofs.Commits.{on_ok, on_err, went_on, stayed_there}
use Rattle.machine_step.proofs.commit.go_on.Goals as goal

pub returns-clause-ok : goal.returns-clause-ok
returns-clause-ok c = on_ok c.change_frame-done.result
    (went_on c.args.s.now c.args.thread c.exchange-running.result c.no_thread.result c.exchange-frame.result c.change_frame-done.new.frame c.no_frame.result c.args.first c.args.change.now
    c.exchange-frame.new.self c.exchange.new.self c.exchange-running.new.self c.exchange-2.new.self
    (record { thread = c.exchange-running.ensures.was; frame = c.exchange-frame.ensures.was; running = c.requires })
    c.exchange-running.ensures.is c.exchange-frame.ensures.is c.exchange.ensures.is c.exchange-2.ensures.is)
    c.change_frame-done.ensures.ok

pub returns-clause-err : goal.returns-clause-err
returns-clause-err c = on_err c.change_frame-done.result
    (stayed_there c.args.s.now c.args.thread c.exchange-running.result c.no_thread.result c.exchange-frame.result c.change_frame-done.new.frame c.no_frame.result
    c.exchange-frame.new.self c.exchange.new.self c.exchange-running.new.self c.exchange-2.new.self
    (record { thread = c.exchange-running.ensures.was; frame = c.exchange-frame.ensures.was; running = c.requires })
    c.exchange-running.ensures.is c.exchange-frame.ensures.is c.exchange.ensures.is c.exchange-2.ensures.is)
    c.change_frame-done.ensures.err
