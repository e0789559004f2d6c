use Rattle.std.proofs.Common.{[], ◌∷◌}
use Rattle.py_grammar.specs.Symbols.{vstmt, newline, fixed, simple}
use Rattle.py_parser.proofs.SimpleRows.{led}
use Rattle.py_parser.proofs.simple.line.Goals as goal

pub returns-clause-leads : goal.returns-clause-leads
returns-clause-leads c =
    led (simple ∷ fixed newline ∷ []) (fixed newline ∷ []) [] (vstmt c.in-Ok.x.0 ∷ []) c.args.ts.now c.in-Ok.x.1.now (λ x. vstmt x.0) (λ x. x.1.now) c.line_end.result
    (λ S V. c.in-Ok.ensures.leads (fixed newline ∷ S) V)
    c.line_end.ensures.leads
