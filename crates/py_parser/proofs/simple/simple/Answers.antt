use Rattle.std.proofs.Common.{[], ◌∷◌, ap, sym, ◌∙◌}
use Rattle.py_grammar.specs.Symbols.{vstmt, open_paren, close_paren, fixed, make, want_name, neg, tail_and, tail_or, simple, return_tail, simple_tail}
use Rattle.py_grammar.specs.Makers.{make_raise, make_assert}
use Rattle.py_grammar.specs.Machine.{run}
use Rattle.py_parser.proofs.SimpleRows.{led, row_return, row_raise, row_assert, row_plain}
use Rattle.py_parser.proofs.simple.simple.Goals as goal

pub returns-in-Return-clause-leads : goal.returns-in-Return-clause-leads
returns-in-Return-clause-leads c =
    let k = c.in-Some.first.now in
    led (simple ∷ []) (return_tail k.place ∷ []) [] [] c.args.ts.now c.in-Some.after.now (λ x. vstmt x.0) (λ x. x.1.now) c.returned.result
    (λ S V.
    ap (λ us. run us (simple ∷ S) V) c.in-Some.ensures
    ∙ row_return c.in-Some.after.now k S V c.in-Return.ensures)
    c.returned.ensures.leads

pub returns-in-Raise-clause-leads : goal.returns-in-Raise-clause-leads
returns-in-Raise-clause-leads c =
    let k = c.in-Some.first.now in
    led (simple ∷ []) (want_name ∷ fixed open_paren ∷ fixed close_paren ∷ make (make_raise k.place) ∷ []) [] [] c.args.ts.now c.in-Some.after.now (λ x. vstmt x.0) (λ x. x.1.now) c.raised.result
    (λ S V.
    ap (λ us. run us (simple ∷ S) V) c.in-Some.ensures
    ∙ row_raise c.in-Some.after.now k S V c.in-Raise.ensures)
    c.raised.ensures.leads

pub returns-in-Assert-clause-leads : goal.returns-in-Assert-clause-leads
returns-in-Assert-clause-leads c =
    let k = c.in-Some.first.now in
    led (simple ∷ []) (neg ∷ tail_and ∷ tail_or ∷ make (make_assert k.place) ∷ []) [] [] c.args.ts.now c.in-Some.after.now (λ x. vstmt x.0) (λ x. x.1.now) c.asserted.result
    (λ S V.
    ap (λ us. run us (simple ∷ S) V) c.in-Some.ensures
    ∙ row_assert c.in-Some.after.now k S V c.in-Assert.ensures)
    c.asserted.ensures.leads

pub returns-in-Other-clause-leads : goal.returns-in-Other-clause-leads
returns-in-Other-clause-leads c =
    let k = c.in-Some.first.now in
    led (simple ∷ []) (neg ∷ tail_and ∷ tail_or ∷ simple_tail k.place ∷ []) [] [] c.args.ts.now c.args.ts.now (λ x. vstmt x.0) (λ x. x.1.now) c.plain.result
    (λ S V.
    ap (λ us. run us (simple ∷ S) V) c.in-Some.ensures
    ∙ row_plain c.in-Some.after.now k S V c.in-Other.ensures
    ∙ ap (λ us. run us (neg ∷ tail_and ∷ tail_or ∷ simple_tail k.place ∷ S) V) (sym c.in-Some.ensures))
    c.plain.ensures.leads
