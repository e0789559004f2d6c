use Rattle.std.specs.Prelude.{FitsSigned}
use Rattle.std.specs.Int.{w128}
use Rattle.std.proofs.Common.{subst, sym, ◌∙◌}
use Rattle.std.proofs.lemmas.Int.{to_z-of_z}
use Rattle.proof_checker.specs.Chains.{side_term}
use Rattle.proof_checker.proofs.Figuring.{figure_is, figure_none, figure_symbol, own_figure_fits}
use Rattle.proof_checker.proofs.figures.figure.Goals as goal

pub returns-in-Number : goal.returns-in-Number
returns-in-Number c =
    let t = side_term c.args.s.now in
    let is = figure_is c.args.q t c.in-Number.z c.in-Number.ensures in
    let fits : FitsSigned w128 c.in-Number.z = subst (λ z. FitsSigned w128 z) (sym is.1) (own_figure_fits c.args.q t is.0) in
    (is.0, to_z-of_z w128 c.in-Number.z fits ∙ is.1)

pub returns-in-Symbol : goal.returns-in-Symbol
returns-in-Symbol c = absurd (figure_symbol c.args.q (side_term c.args.s.now) c.in-Symbol.field-0 c.in-Symbol.ensures)

pub returns-in-None : goal.returns-in-None
returns-in-None c = figure_none c.args.q (side_term c.args.s.now) c.in-None.ensures
