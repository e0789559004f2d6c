use Rattle.std.proofs.Common.{◌∙◌}
use Rattle.proof_checker.proofs.Reading.{node-None}
use Rattle.proof_checker.proofs.side.whole.Goals as goal

pub returns : goal.returns
returns c = node-None c.side.result ∙ c.side.ensures
