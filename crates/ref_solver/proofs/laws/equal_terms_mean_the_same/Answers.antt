use Rattle.ref_solver.proofs.Meant.{same_meaning}
use Rattle.ref_solver.proofs.laws.equal_terms_mean_the_same.Goals as goal

pub returns : goal.returns
returns c m ls s t sorts fits holds h = same_meaning m ls sorts fits holds s t h
