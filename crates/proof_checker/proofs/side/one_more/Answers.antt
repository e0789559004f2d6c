use Rattle.proof_checker.specs.declared.origin.Origin.TheVariants as origin
use Rattle.proof_checker.proofs.Reading.{node-None}
use Rattle.proof_checker.proofs.side.one_more.Goals as goal

pub returns : goal.returns
returns c = node-None (origin.PlusOne c.args.t)
