use Rattle.std.proofs.Common.{[], ◌∷◌}
use Rattle.py_grammar.specs.Symbols.{vname, vty, vparams, vmarks, vfunc, colon, arrow, fixed, make, ty_atom, ty_tail, block}
use Rattle.py_grammar.specs.Makers.{make_func}
use Rattle.py_parser.proofs.SimpleRows.{led}
use Rattle.py_parser.proofs.function.with_result.Goals as goal

pub returns-clause-leads : goal.returns-clause-leads
returns-clause-leads c =
    let V₀ = vparams c.args.head.params ∷ vname c.args.head.word.place c.args.head.word.text ∷ vmarks c.args.head.marks ∷ [] in
    led (fixed arrow ∷ ty_atom ∷ ty_tail ∷ fixed colon ∷ block ∷ make make_func ∷ []) (block ∷ make make_func ∷ []) V₀ (vty c.in-Ok.x.0 ∷ V₀) c.args.ts.now c.in-Ok.x.1.now (λ x. vfunc x.0) (λ x. x.1.now) c.with_block.result
    (λ S V. c.in-Ok.ensures.leads (block ∷ make make_func ∷ S) (vparams c.args.head.params ∷ vname c.args.head.word.place c.args.head.word.text ∷ vmarks c.args.head.marks ∷ V))
    c.with_block.ensures.leads
