use Rattle.std.proofs.Common.{◌≡◌, ◌∙◌, [], ◌∷◌, ap}
use Rattle.py_grammar.specs.Symbols.{vname, vbase, in_base, base_tail}
use Rattle.py_grammar.specs.Machine.{run}
use Rattle.py_parser.proofs.ClassRows.{led, row_base_name}
use Rattle.py_parser.proofs.class.in_base.Goals as goal

pub returns-in_ok-copy-in-Name-clause-leads : goal.returns-in_ok-copy-in-Name-clause-leads
returns-in_ok-copy-in-Name-clause-leads c =
    let k = c.in-Some.first.now in
    let after = c.in-Some.after.now in
    let head = c.word_at-head.result in
    let same : vname k.place c.in-Name.name ≡ vname head.place head.text = cc (c.word_at-head.ensures.place, c.word_at-head.ensures.text, c.in_ok-copy-in-Name.ensures) in
    led c.base_tail.result (in_base ∷ []) (base_tail ∷ []) [] (vname head.place head.text ∷ []) c.args.ts.now after (λ x. vbase x.0) (λ x. x.1.now) (λ S V. ap (λ ts. run ts (in_base ∷ S) V) c.in-Some.ensures
    ∙ row_base_name after k S V c.in-Name.name c.in-Name.is
    ∙ ap (λ v. run after (base_tail ∷ S) (v ∷ V)) same) c.base_tail.ensures.leads
