use Rattle.std.proofs.Common.{[], ◌∷◌, ◌∙◌}
use Rattle.py_grammar.specs.Symbols.{vmarks, vfunc, word_def, fixed}
use Rattle.py_grammar.specs.Moves.{decorator_with, func_with}
use Rattle.py_parser.proofs.SimpleRows.{led}
use Rattle.py_parser.proofs.function.decorated.Goals as goal

pub returns-clause-leads : goal.returns-clause-leads
returns-clause-leads c =
    led (decorator_with (fixed word_def ∷ func_with [])) (func_with []) (vmarks [] ∷ []) (vmarks c.in-Ok.x.0 ∷ []) c.args.ts.now c.in-Ok-past.x.now (λ x. vfunc x.0) (λ x. x.1.now) c.function.result
    (λ S V.
    c.in-Ok.ensures.leads (fixed word_def ∷ func_with S) V
    ∙ c.in-Ok-past.ensures.leads (func_with S) (vmarks c.in-Ok.x.0 ∷ V))
    c.function.ensures.leads
