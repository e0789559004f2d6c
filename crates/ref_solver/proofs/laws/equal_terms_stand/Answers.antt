use Rattle.ref_solver.proofs.Standing.{both_stand}
use Rattle.ref_solver.proofs.laws.equal_terms_stand.Goals as goal

pub returns-clause-left : goal.returns-clause-left
returns-clause-left c ls s t h = (both_stand ls s t h).0

pub returns-clause-right : goal.returns-clause-right
returns-clause-right c ls s t h = (both_stand ls s t h).1
