use Rattle.std.proofs.Common.{List, [], ◌∷◌, ap, sym, ◌∙◌}
use Rattle.py_grammar.specs.Symbols.{Sym, vname, vparams, vmarks, vfunc, open_paren, colon, arrow, fixed, make, ty_atom, ty_tail, block, params}
use Rattle.py_grammar.specs.Makers.{push, make_func}
use Rattle.py_grammar.specs.Moves.{func_with}
use Rattle.py_grammar.specs.Machine.{run}
use Rattle.py_grammar.specs.MachineRows.{row_make}
use Rattle.expr_parser.specs.declared.fixed.Word.{Word}
use Rattle.py_parser.proofs.SimpleRows.{led}
use Rattle.py_parser.proofs.function.function.Goals as goal

pub returns-clause-leads : goal.returns-clause-leads
returns-clause-leads c =
    let h = c.head_of.result in
    let w = c.in-Ok.x.0 in
    let ms = c.args.marks in
    let ps = c.in-Ok-parameters.x.0 in
    let r = c.in-Ok-parameters.x.1.now in
    led (func_with []) (fixed arrow ∷ ty_atom ∷ ty_tail ∷ fixed colon ∷ block ∷ make make_func ∷ []) (vmarks ms ∷ []) (vparams h.params ∷ vname h.word.place h.word.text ∷ vmarks h.marks ∷ []) c.args.ts.now r (λ x. vfunc x.0) (λ x. x.1.now) c.with_result.result
    (λ S V.
    let T : List Sym = fixed arrow ∷ ty_atom ∷ ty_tail ∷ fixed colon ∷ block ∷ make make_func ∷ S in
    c.in-Ok.ensures.leads (fixed open_paren ∷ make (push (vparams [])) ∷ params ∷ T) (vmarks ms ∷ V)
    ∙ c.in-Ok-past.ensures.leads (make (push (vparams [])) ∷ params ∷ T) (vname w.place w.text ∷ vmarks ms ∷ V)
    ∙ row_make (push (vparams [])) (params ∷ T) (vname w.place w.text ∷ vmarks ms ∷ V) c.in-Ok-past.x.now
    ∙ c.in-Ok-parameters.ensures.leads T (vname w.place w.text ∷ vmarks ms ∷ V)
    ∙ ap (λ x. run r T (vparams x ∷ vname w.place w.text ∷ vmarks ms ∷ V)) (sym c.head_of.ensures.params)
    ∙ ap (λ (x : Word). run r T (vparams h.params ∷ vname x.place x.text ∷ vmarks ms ∷ V)) (sym c.head_of.ensures.word)
    ∙ ap (λ x. run r T (vparams h.params ∷ vname h.word.place h.word.text ∷ vmarks x ∷ V)) (sym c.head_of.ensures.marks))
    c.with_result.ensures.leads
