use Rattle.std.proofs.Common.{ap, ◌∙◌}
use Rattle.terms.specs.Within.{terms_within}
use Rattle.proof_checker.specs.declared.origin.Origin.TheVariants as origin
use Rattle.proof_checker.specs.declared.puts.Puts.{None}
use Rattle.proof_checker.specs.Views.{node_term, has}
use Rattle.proof_checker.proofs.Reading.{node-None}
use Rattle.proof_checker.proofs.walk.stands_within.Goals as goal

pub returns : goal.returns
returns c =
    c.stands.ensures
    ∙ ap (λ z. has (terms_within z) (node_term (origin.Whole c.args.t) None)) (node-None (origin.Whole c.args.u))
    ∙ ap (λ z. has (terms_within c.args.u.now) z) (node-None (origin.Whole c.args.t))
