use Rattle.std.proofs.Common.{◌≡◌, ◌∷◌, length, ap, ◌∙◌, arith, rules}
use Rattle.py_tokens.specs.declared.TokenForm.TheVariants as forms
use Rattle.py_tokens.specs.declared.Mark.TheVariants as marks
use Rattle.py_grammar.specs.Symbols.{vmarks, decorators}
use Rattle.py_grammar.specs.Machine.{run}
use Rattle.py_parser.proofs.FunctionRows.{row_mark}
use Rattle.py_parser.proofs.function.decorator_names.Goals as goal

pub marks-preserved : goal.marks-preserved
marks-preserved c =
    let form : c.in-Some.first.now.form ≡ forms.Mark marks.At = search rules in
    let long = ap length c.in-Some.ensures in record {
      shorter = omega (arith, c.marks.invariant.shorter, c.in-Ok-mark.ensures.shorter, long);
      leads = λ S V. c.marks.invariant.leads S V
          ∙ ap (λ ts. run ts (decorators ∷ S) (vmarks c.marks.list ∷ V)) c.in-Some.ensures
          ∙ row_mark c.in-Some.after.now c.in-Some.first.now S (vmarks c.marks.list ∷ V) form
          ∙ c.in-Ok-mark.ensures.leads (decorators ∷ S) V;
    }

pub returns-in-Err-mark-clause-leads : goal.returns-in-Err-mark-clause-leads
returns-in-Err-mark-clause-leads c f S V =
    let form : c.in-Some.first.now.form ≡ forms.Mark marks.At = search rules in
    c.marks.invariant.leads S V
    ∙ ap (λ ts. run ts (decorators ∷ S) (vmarks c.marks.list ∷ V)) c.in-Some.ensures
    ∙ row_mark c.in-Some.after.now c.in-Some.first.now S (vmarks c.marks.list ∷ V) form
    ∙ c.in-Err-mark.ensures.leads f (decorators ∷ S) V
