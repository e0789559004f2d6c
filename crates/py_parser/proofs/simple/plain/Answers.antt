use Rattle.std.proofs.Common.{[], ◌∷◌}
use Rattle.py_grammar.specs.Symbols.{vexpr, vstmt, neg, tail_and, tail_or, simple_tail}
use Rattle.py_parser.proofs.SimpleRows.{led}
use Rattle.py_parser.proofs.simple.plain.Goals as goal

pub returns-clause-leads : goal.returns-clause-leads
returns-clause-leads c =
    let q = c.args.place in
    led (neg ∷ tail_and ∷ tail_or ∷ simple_tail q ∷ []) (simple_tail q ∷ []) [] (vexpr c.in-Ok.x.0 ∷ []) c.args.ts.now c.in-Ok.x.1.now (λ x. vstmt x.0) (λ x. x.1.now) c.gone_on.result
    (λ S V. c.in-Ok.ensures.leads (simple_tail q ∷ S) V)
    c.gone_on.ensures.leads
