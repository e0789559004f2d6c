use Rattle.machine_step.proofs.Commits.{has_ended}
use Rattle.machine_step.proofs.commit.end_thread.Goals as goal

pub returns : goal.returns
returns c = λ first.
    has_ended c.args.s.now c.args.thread c.exchange-ended.result c.no_thread.result first c.new.result c.exchange-ended.new.self c.exchange.new.self
    c.exchange-ended.ensures.was c.requires c.exchange-ended.ensures.is c.new.ensures c.exchange.ensures.is
