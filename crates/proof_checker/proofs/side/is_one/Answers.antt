use Rattle.std.proofs.Common.{sym, ◌∙◌}
use Rattle.proof_checker.specs.declared.origin.Origin.TheVariants as origin
use Rattle.proof_checker.proofs.Reading.{node-None}
use Rattle.proof_checker.proofs.side.is_one.Goals as goal

pub returns : goal.returns
returns c = (λ h. c.is_side.ensures.0 h ∙ node-None origin.One, λ e. c.is_side.ensures.1 (e ∙ sym (node-None origin.One)))
