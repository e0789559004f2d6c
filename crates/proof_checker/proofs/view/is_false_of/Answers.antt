use Rattle.std.proofs.Common.{ap}
use Rattle.proof_checker.specs.declared.view.Kind.{Kind}
use Rattle.proof_checker.specs.Chains.{side_term, compared}
use Rattle.proof_checker.proofs.Sides.{apart_false}
use Rattle.proof_checker.proofs.view.is_false_of.Goals as goal

pub returns-in-Apart : goal.returns-in-Apart
returns-in-Apart c =
    let a = side_term c.args.a.now in
    let b = side_term c.args.b.now in
    let both = apart_false (compared c.args.k a b) a b (ap (λ (k : Kind). compared k a b) c.in-Apart.is) in
    (λ h. both.0 (c.same_sides.ensures.0 h), λ h. c.same_sides.ensures.1 (both.1 h))
