use Rattle.std.proofs.Common.{sym, ◌∙◌}
use Rattle.terms.specs.Within.{terms_within}
use Rattle.proof_checker.specs.Chains.{side_term}
use Rattle.proof_checker.proofs.Sides.{there, has_it}
use Rattle.proof_checker.proofs.side.stands_in_side.Goals as goal

pub returns : goal.returns
returns c =
    let ts = terms_within (side_term c.args.b.now) in
    let a = side_term c.args.a.now in
    (λ h. there ts a (sym c.stands.ensures ∙ h), λ h. c.stands.ensures ∙ has_it ts a h)
