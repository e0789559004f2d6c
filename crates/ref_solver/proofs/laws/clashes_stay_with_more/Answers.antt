use Rattle.ref_solver.proofs.Finding.{clash_more}
use Rattle.ref_solver.proofs.laws.clashes_stay_with_more.Goals as goal

pub returns : goal.returns
returns c = clash_more
