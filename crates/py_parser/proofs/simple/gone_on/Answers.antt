use Rattle.std.proofs.Common.{[], ◌∷◌, ap, ◌∙◌}
use Rattle.py_grammar.specs.Symbols.{vexpr, vstmt, assign, fixed, make, neg, tail_and, tail_or, ty_atom, ty_tail, simple_tail}
use Rattle.py_grammar.specs.Makers.{make_declare, make_assign, make_augment}
use Rattle.py_grammar.specs.Machine.{run}
use Rattle.py_parser.proofs.SimpleRows.{led, row_declare, row_assign, row_augment}
use Rattle.py_parser.proofs.simple.gone_on.Goals as goal

pub returns-in-Colon-clause-leads : goal.returns-in-Colon-clause-leads
returns-in-Colon-clause-leads c =
    let q = c.args.place in
    led (simple_tail q ∷ []) (ty_atom ∷ ty_tail ∷ fixed assign ∷ neg ∷ tail_and ∷ tail_or ∷ make (make_declare q) ∷ []) (vexpr c.args.e ∷ []) (vexpr c.args.e ∷ []) c.args.ts.now c.in-Some.after.now (λ x. vstmt x.0) (λ x. x.1.now) c.declared.result
    (λ S V.
    ap (λ us. run us (simple_tail q ∷ S) (vexpr c.args.e ∷ V)) c.in-Some.ensures
    ∙ row_declare c.in-Some.after.now c.in-Some.first.now S (vexpr c.args.e ∷ V) q c.in-Colon.ensures)
    c.declared.ensures.leads

pub returns-in-Assign-clause-leads : goal.returns-in-Assign-clause-leads
returns-in-Assign-clause-leads c =
    let q = c.args.place in
    led (simple_tail q ∷ []) (neg ∷ tail_and ∷ tail_or ∷ make (make_assign q) ∷ []) (vexpr c.args.e ∷ []) (vexpr c.args.e ∷ []) c.args.ts.now c.in-Some.after.now (λ x. vstmt x.0) (λ x. x.1.now) c.assigned.result
    (λ S V.
    ap (λ us. run us (simple_tail q ∷ S) (vexpr c.args.e ∷ V)) c.in-Some.ensures
    ∙ row_assign c.in-Some.after.now c.in-Some.first.now S (vexpr c.args.e ∷ V) q c.in-Assign.ensures)
    c.assigned.ensures.leads

pub returns-in-Augment-clause-leads : goal.returns-in-Augment-clause-leads
returns-in-Augment-clause-leads c =
    let q = c.args.place in
    let k = c.in-Some.first.now in
    led (simple_tail q ∷ []) (neg ∷ tail_and ∷ tail_or ∷ make (make_augment q k.place c.in-Augment.sign) ∷ []) (vexpr c.args.e ∷ []) (vexpr c.args.e ∷ []) c.args.ts.now c.in-Some.after.now (λ x. vstmt x.0) (λ x. x.1.now) c.augmented.result
    (λ S V.
    ap (λ us. run us (simple_tail q ∷ S) (vexpr c.args.e ∷ V)) c.in-Some.ensures
    ∙ row_augment c.in-Some.after.now k S (vexpr c.args.e ∷ V) q c.in-Augment.sign c.in-Augment.ensures)
    c.augmented.ensures.leads
