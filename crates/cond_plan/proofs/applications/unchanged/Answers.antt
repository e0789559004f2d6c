use Rattle.proof_checker.specs.declared.Origin.TheVariants as origin
use Rattle.proof_checker.proofs.Reading.{node-None}
use Rattle.cond_plan.proofs.applications.unchanged.Goals as goal

pub returns : goal.returns
returns c = node-None (origin.Whole c.args.t)
