use Rattle.proof_checker.proofs.Ruled.{clash_derives}
use Rattle.proof_checker.proofs.laws.clashes_derive.Goals as goal

pub returns : goal.returns
returns c = clash_derives
