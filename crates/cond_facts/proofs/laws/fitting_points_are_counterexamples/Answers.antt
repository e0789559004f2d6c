use Rattle.cond_facts.proofs.Answered.{is_counterexample}
use Rattle.cond_facts.proofs.laws.fitting_points_are_counterexamples.Goals as goal

pub returns : goal.returns
returns c = is_counterexample
