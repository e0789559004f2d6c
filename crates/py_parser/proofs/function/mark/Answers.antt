use Rattle.std.proofs.Common.{[], ◌∷◌, ◌++◌, ◌∙◌}
use Rattle.py_grammar.specs.Symbols.{vmarks, newline, fixed, make}
use Rattle.py_grammar.specs.Makers.{make_mark}
use Rattle.py_parser.proofs.FunctionRows.{made_mark}
use Rattle.py_parser.proofs.function.mark.Goals as goal

pub returns-in-Err-past-clause-leads : goal.returns-in-Err-past-clause-leads
returns-in-Err-past-clause-leads c f S V =
    let list = c.args.list.now in
    let x = c.in-Ok.x in
    c.in-Ok.ensures.leads (make make_mark ∷ fixed newline ∷ S) (vmarks list ∷ V)
    ∙ made_mark x.1.now (fixed newline ∷ S) V x.0.place x.0.text list
    ∙ c.in-Err-past.ensures.leads f S (vmarks (list ++ x.0.text ∷ []) ∷ V)
