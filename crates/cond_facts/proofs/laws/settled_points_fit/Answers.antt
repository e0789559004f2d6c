use Rattle.cond_facts.proofs.Fitted.{fitted}
use Rattle.cond_facts.proofs.laws.settled_points_fit.Goals as goal

pub returns : goal.returns
returns c = fitted
