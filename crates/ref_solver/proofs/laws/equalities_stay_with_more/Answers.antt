use Rattle.ref_solver.proofs.Standing.{follows_more}
use Rattle.ref_solver.proofs.laws.equalities_stay_with_more.Goals as goal

pub returns : goal.returns
returns c = follows_more
