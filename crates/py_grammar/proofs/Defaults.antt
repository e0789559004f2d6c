-- Each symbol can be completed.
use Rattle.std.proofs.Common.{refl, List, [], ◌∷◌, None}
use Rattle.py_base.specs.declared.Place.{Place}
use Rattle.py_tokens.specs.declared.Token.{Token}
use Rattle.py_tokens.specs.declared.TokenForm.{TokenForm}
use Rattle.py_tokens.specs.declared.TokenForm.TheVariants as forms
use Rattle.py_tokens.specs.declared.Keyword.TheVariants as keys
use Rattle.py_tokens.specs.declared.Mark.TheVariants as marks
use Rattle.raw_syntax.specs.declared.RawExpr.{RawExpr}
use Rattle.raw_syntax.specs.declared.Comparison.TheVariants as compares
use Rattle.py_grammar.specs.ExprGrammar.{only_cmp, only_sum, no_link, only_prod, ReadsUn, only_un, only_post, only_atom, no_arg, args_end, arg_value, name, unit, bracket, no_element, elements_end, is_same}
use Rattle.py_grammar.specs.StmtGrammar.{type_name, only_head, pass, return, eval, simple as simple_line, finally_of, one_line, stmts_end, no_elif, no_else, no_finally, no_handler}
use Rattle.py_grammar.specs.ModuleGrammar.{only_name, no_param, params_end, no_decorator, no_doc, members_end, pass_body, no_base, empty_base, base_name, no_dot, no_comma, all_names, no_import, no_item}
use Rattle.py_grammar.specs.Symbols.{form_of, Sym, fixed, make, want_name, neg, un, tail_post, tail_prod, tail_sum, tail_cmp, is_tail, links, tail_and, tail_or, in_bracket, bracket_tail, elements, elements_tail, args, arg_tail, args_tail, ty_atom, ty_tail, simple, return_tail, simple_tail, stmt, block, stmts, elifs, else_part, finally_part, try_tail, handlers, params, param_tail, params_tail, decorators, members, class_body, doc, base, in_base, base_tail, any_name, dots, commas, imported, imports, items}
use Rattle.py_grammar.proofs.Phrases.{Completes, tok}

o : Place
o = record { line = 1; col = 1 }

any : TokenForm → Token
any f = tok o o f

close : Token
close = any (forms.Mark marks.CloseParen)

a_name : Token
a_name = any (forms.Name [])

a_line : List Token → List Token
a_line ts = any (forms.Key keys.Pass) ∷ any forms.Newline ∷ ts

an_un : (ts : List Token) → (e : RawExpr) × ReadsUn e (a_name ∷ ts) ts
unfolding a_name any
an_un ts = (_, only_post (only_atom (name (o, refl))))

-- Each symbol has a phrase in front of what completes the others.
pub default : (X : Sym) (S : List Sym) (ts : List Token) → Completes S ts → (t : List Token) × Completes (X ∷ S) t
unfolding a_line a_name close any
default (fixed x) S ts c = (any (form_of x) ∷ ts, (ts, (o, (o, refl)), c))
default (make g) S ts c = (ts, c)
default want_name S ts c = (a_name ∷ ts, (ts, (o, [], (o, refl)), c))
default neg S ts c = (a_name ∷ ts, (ts, (_, only_cmp (only_sum (only_prod (only_un (an_un ts).1)))), c))
default un S ts c = (a_name ∷ ts, (ts, an_un ts, c))
default tail_post S ts c = (ts, (ts, (λ a t x. (a, x)), c))
default tail_prod S ts c = (ts, (ts, (λ a t x. (a, x)), c))
default tail_sum S ts c = (ts, (ts, (λ a t x. (a, x)), c))
default tail_cmp S ts c = (ts, (ts, (λ a t x. (a, only_sum x)), c))
default (is_tail q) S ts c = (a_name ∷ ts, (ts, (λ t h. (compares.Is, q, (an_un ts).0, [], (a_name ∷ ts), ts, is_same h, only_prod (only_un (an_un ts).1), no_link)), c))
default links S ts c = (ts, (ts, ([], no_link), c))
default tail_and S ts c = (ts, (ts, (λ a t x. (a, x)), c))
default tail_or S ts c = (ts, (ts, (λ a t x. (a, x)), c))
default (in_bracket q) S ts c = (close ∷ ts, (ts, (λ t h. (_, unit h (o, (o, refl)))), c))
default (bracket_tail q) S ts c = (close ∷ ts, (ts, (λ t a e h x. (_, bracket h x (o, (o, refl)))), c))
default (elements q) S ts c = (close ∷ ts, (ts, ([], no_element (o, (o, refl))), c))
default (elements_tail q) S ts c = (close ∷ ts, (ts, ([], elements_end (o, (o, refl))), c))
default args S ts c = (close ∷ ts, (ts, ([], no_arg (o, (o, refl))), c))
default arg_tail S ts c = (ts, (ts, (λ a t x. (_, arg_value x)), c))
default args_tail S ts c = (close ∷ ts, (ts, ([], args_end (o, (o, refl))), c))
default ty_atom S ts c = (a_name ∷ ts, (ts, (o, [], type_name (o, refl)), c))
default ty_tail S ts c = (ts, (ts, (λ p n t a. (_, only_head a)), c))
default simple S ts c = (any (forms.Key keys.Pass) ∷ ts, (ts, (_, pass (o, refl)), c))
default (return_tail q) S ts c = (ts, (ts, (λ t h. (_, return h)), c))
default (simple_tail q) S ts c = (ts, (ts, (λ e t b x. (_, eval b x)), c))
default stmt S ts c = (a_line ts, (ts, (_, simple_line (pass (o, refl)) (o, (o, refl))), c))
default block S ts c = (a_line ts, (ts, (_, one_line (pass (o, refl)) (o, (o, refl))), c))
default stmts S ts c = (any forms.Dedent ∷ ts, (ts, ([], stmts_end (o, (o, refl))), c))
default elifs S ts c = (ts, (ts, ([], no_elif), c))
default else_part S ts c = (ts, (ts, ([], no_else), c))
default finally_part S ts c = (ts, (ts, ([], no_finally), c))
default (try_tail q) S ts c = (any (forms.Key keys.Finally) ∷ any (forms.Mark marks.Colon) ∷ a_line ts, (ts, (λ t a b ss h k x. (_, finally_of h k x (o, (o, refl)) (o, (o, refl)) (one_line (pass (o, refl)) (o, (o, refl))))), c))
default handlers S ts c = (ts, (ts, ([], no_handler), c))
default params S ts c = (close ∷ ts, (ts, ([], no_param (o, (o, refl))), c))
default param_tail S ts c = (ts, (ts, (λ p n t h. (_, only_name h)), c))
default params_tail S ts c = (close ∷ ts, (ts, ([], params_end (o, (o, refl))), c))
default decorators S ts c = (ts, (ts, ([], no_decorator), c))
default members S ts c = (any forms.Dedent ∷ ts, (ts, ([], members_end (o, (o, refl))), c))
default class_body S ts c = (a_line ts, (ts, ([], pass_body (o, (o, refl)) (o, (o, refl))), c))
default doc S ts c = (ts, (ts, no_doc, c))
default base S ts c = (ts, (ts, (None, no_base), c))
default in_base S ts c = (close ∷ ts, (ts, (λ t h. (None, empty_base h (o, (o, refl)))), c))
default base_tail S ts c = (close ∷ ts, (ts, (λ t a p n h k. (_, base_name h k (o, (o, refl)))), c))
default any_name S ts c = (a_name ∷ ts, (ts, ([], (o, (o, refl))), c))
default dots S ts c = (ts, (ts, no_dot, c))
default commas S ts c = (ts, (ts, no_comma, c))
default imported S ts c = (any (forms.Mark marks.Star) ∷ ts, (ts, all_names (o, (o, refl)), c))
default imports S ts c = (ts, (ts, no_import, c))
default items S ts c = (any forms.End ∷ ts, (ts, ([], o, (any forms.End ∷ ts), no_item, (o, refl)), c))

-- each stack of symbols can be completed
pub completion : (S : List Sym) → (w : List Token) × Completes S w
completion [] = ([], refl)
completion (X ∷ S) = let c = completion S in default X S c.0 c.1
