use Rattle.std.proofs.Common.{[], ◌∷◌, ap, sym, ◌∙◌}
use Rattle.py_grammar.specs.Symbols.{vstmt, make, neg, tail_and, tail_or, return_tail}
use Rattle.py_grammar.specs.Makers.{make_value_return}
use Rattle.py_grammar.specs.Machine.{run}
use Rattle.py_parser.proofs.SimpleRows.{led, row_return_value}
use Rattle.py_parser.proofs.simple.returned.Goals as goal

pub returns-then-begins_expression-clause-leads : goal.returns-then-begins_expression-clause-leads
returns-then-begins_expression-clause-leads c =
    let q = c.args.place in
    let ts = c.args.ts.now in
    led (return_tail q ∷ []) (neg ∷ tail_and ∷ tail_or ∷ make (make_value_return q) ∷ []) [] [] ts ts (λ x. vstmt x.0) (λ x. x.1.now) c.return_value.result
    (λ S V.
    ap (λ us. run us (return_tail q ∷ S) V) c.in-Some.ensures
    ∙ row_return_value c.in-Some.field-0-1.now c.in-Some.first.now S V q (sym c.if-begins_expression.ensures)
    ∙ ap (λ us. run us (neg ∷ tail_and ∷ tail_or ∷ make (make_value_return q) ∷ S) V) (sym c.in-Some.ensures))
    c.return_value.ensures.leads
