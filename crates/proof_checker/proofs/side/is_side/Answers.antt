use Rattle.std.proofs.Common.{sym, ◌∙◌}
use Rattle.proof_checker.specs.Chains.{side_term}
use Rattle.proof_checker.specs.Views.{origin_term, under}
use Rattle.proof_checker.proofs.Sides.{same_iff, asked-With}
use Rattle.proof_checker.proofs.side.is_side.Goals as goal

pub returns : goal.returns
returns c =
    let u = under c.args.p.now (origin_term c.args.x) in
    let both = same_iff c.apply.result (side_term c.args.b.now) u (c.apply.ensures ∙ asked-With c.args.b.now.origin _ u) in
    (λ h. sym (both.0 h), λ e. both.1 (sym e))
