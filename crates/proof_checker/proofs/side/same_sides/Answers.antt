use Rattle.proof_checker.specs.Chains.{side_term}
use Rattle.proof_checker.proofs.Sides.{same_iff}
use Rattle.proof_checker.proofs.side.same_sides.Goals as goal

pub returns : goal.returns
returns c = same_iff c.same_nodes.result (side_term c.args.a.now) (side_term c.args.b.now) c.same_nodes.ensures
