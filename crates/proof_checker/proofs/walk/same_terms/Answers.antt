use Rattle.proof_checker.proofs.Numbering.{same_tests}
use Rattle.proof_checker.proofs.walk.same_terms.Goals as goal

pub returns : goal.returns
returns c = same_tests c.args.a.now c.args.b.now c.is_same.result c.is_same.ensures
