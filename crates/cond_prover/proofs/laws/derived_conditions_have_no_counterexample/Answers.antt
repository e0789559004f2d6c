use Rattle.cond_prover.proofs.Answering.{excluded}
use Rattle.cond_prover.proofs.laws.derived_conditions_have_no_counterexample.Goals as goal

pub returns : goal.returns
returns c = excluded c.derived_conditions_hold.ensures
