use Rattle.std.proofs.Common.{◌≡◌, ◌∷◌, ap, ◌∙◌, rules}
use Rattle.py_tokens.specs.declared.TokenForm.TheVariants as forms
use Rattle.py_tokens.specs.declared.Keyword.TheVariants as keys
use Rattle.py_grammar.specs.Symbols.{vstmts, velifs, vhandlers, stmt, block, elifs, try_tail, handlers}
use Rattle.py_grammar.specs.Machine.{run}
use Rattle.py_parser.proofs.BlockRows.{row_lines, row_if, row_while, row_with, row_elif}
use Rattle.py_parser.proofs.TryRows.{row_except, row_caught, row_uncaught}
use Rattle.py_parser.proofs.block.+block.Goals as goal

pub block-returns-in-Err-clause-leads : goal.block-returns-in-Err-clause-leads
block-returns-in-Err-clause-leads n c f S V =
    ap (λ ts. run ts (block ∷ S) V) c.in-Some.ensures
    ∙ row_lines c.in-Some.after.now c.in-Some.first.now S V c.in-Lines.ensures
    ∙ c.in-Err.ensures.leads f S V

pub elif_parts-returns-in-Err-clause-leads : goal.elif_parts-returns-in-Err-clause-leads
elif_parts-returns-in-Err-clause-leads n c f S V =
    let form : c.in-Some.first.now.form ≡ forms.Key keys.Elif = search rules in
    c.parts.invariant.leads S V
    ∙ ap (λ ts. run ts (elifs ∷ S) (velifs c.parts.parts ∷ V)) c.in-Some.ensures
    ∙ row_elif c.in-Some.after.now c.in-Some.first.now S (velifs c.parts.parts ∷ V) form
    ∙ c.in-Err.ensures.leads f (elifs ∷ S) V

pub ended-returns-in-Err-clause-leads : goal.ended-returns-in-Err-clause-leads
ended-returns-in-Err-clause-leads n c f S V =
    ap (λ ts. run ts (try_tail c.args.place ∷ S) (vstmts c.args.tried ∷ V)) c.in-Some.ensures
    ∙ row_caught c.in-Some.after.now c.in-Some.first.now S (vstmts c.args.tried ∷ V) c.args.place c.in-Except.ensures
    ∙ c.in-Err.ensures.leads f S V

pub ended-returns-in-Err-uncaught-clause-leads : goal.ended-returns-in-Err-uncaught-clause-leads
ended-returns-in-Err-uncaught-clause-leads n c f S V =
    ap (λ ts. run ts (try_tail c.args.place ∷ S) (vstmts c.args.tried ∷ V)) c.in-Some.ensures
    ∙ row_uncaught c.in-Some.after.now c.in-Some.first.now S (vstmts c.args.tried ∷ V) c.args.place c.in-Finally.ensures
    ∙ c.in-Err-uncaught.ensures.leads f S V

pub more_handlers-returns-in-Err-clause-leads : goal.more_handlers-returns-in-Err-clause-leads
more_handlers-returns-in-Err-clause-leads n c f S V =
    let form : c.in-Some.first.now.form ≡ forms.Key keys.Except = search rules in
    c.list.invariant.leads S V
    ∙ ap (λ ts. run ts (handlers ∷ S) (vhandlers c.list.list ∷ V)) c.in-Some.ensures
    ∙ row_except c.in-Some.after.now c.in-Some.first.now S (vhandlers c.list.list ∷ V) form
    ∙ c.in-Err.ensures.leads f (handlers ∷ S) V

pub stmt-returns-in-Err-clause-leads : goal.stmt-returns-in-Err-clause-leads
stmt-returns-in-Err-clause-leads n c f S V =
    ap (λ ts. run ts (stmt ∷ S) V) c.in-Some.ensures
    ∙ row_if c.in-Some.after.now c.in-Some.first.now S V c.in-If.ensures
    ∙ c.in-Err.ensures.leads f S V

pub stmt-returns-in-Err-while_of-clause-leads : goal.stmt-returns-in-Err-while_of-clause-leads
stmt-returns-in-Err-while_of-clause-leads n c f S V =
    ap (λ ts. run ts (stmt ∷ S) V) c.in-Some.ensures
    ∙ row_while c.in-Some.after.now c.in-Some.first.now S V c.in-While.ensures
    ∙ c.in-Err-while_of.ensures.leads f S V

pub stmt-returns-in-Err-with_of-clause-leads : goal.stmt-returns-in-Err-with_of-clause-leads
stmt-returns-in-Err-with_of-clause-leads n c f S V =
    ap (λ ts. run ts (stmt ∷ S) V) c.in-Some.ensures
    ∙ row_with c.in-Some.after.now c.in-Some.first.now S V c.in-With.ensures
    ∙ c.in-Err-with_of.ensures.leads f S V
