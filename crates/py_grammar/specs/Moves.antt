-- The machine's table: what each token does at each symbol.
use Rattle.std.specs.Prelude.{Bool, true, false, List, [], ◌∷◌, ◌++◌, None, if◌then◌else◌, codes}
use Rattle.py_base.specs.declared.Place.{Place}
use Rattle.py_tokens.specs.declared.TokenForm.{TokenForm}
use Rattle.py_tokens.specs.declared.TokenForm.TheVariants as forms
use Rattle.py_tokens.specs.declared.Keyword.TheVariants as keys
use Rattle.py_tokens.specs.declared.Mark.TheVariants as marks
use Rattle.raw_syntax.specs.declared.RawExprForm.TheVariants as exprs
use Rattle.raw_syntax.specs.declared.RawStmtForm.TheVariants as states
use Rattle.raw_syntax.specs.declared.Arithmetic.{Arithmetic}
use Rattle.raw_syntax.specs.declared.Arithmetic.TheVariants as signs
use Rattle.raw_syntax.specs.declared.Comparison.{Comparison}
use Rattle.raw_syntax.specs.declared.Comparison.TheVariants as compares
use Rattle.py_grammar.specs.ExprGrammar.{node}
use Rattle.py_grammar.specs.StmtGrammar.{statement}
use Rattle.py_grammar.specs.Symbols.{Value, vexpr, vargs, vlinks, vname, vstmt, vstmts, velifs, vhandlers, vparams, vmarks, vfuncs, vbase, newline, indent, colon, assign, arrow, open_paren, close_paren, close_bracket, word_def, word_import, fits, Sym, fixed, make, want_name, neg, un, tail_post, tail_prod, tail_sum, tail_cmp, is_tail, links, tail_and, tail_or, in_bracket, bracket_tail, elements, elements_tail, args, arg_tail, args_tail, ty_atom, ty_tail, simple, return_tail, simple_tail, stmt, block, stmts, elifs, else_part, finally_part, try_tail, handlers, params, param_tail, params_tail, decorators, members, class_body, doc, base, in_base, base_tail, any_name, dots, commas, imported, imports, items, Move, take, skip, stop}
use Rattle.py_grammar.specs.Makers.{push, make_or, make_and, make_not, make_link, make_chain, make_binary, make_negate, make_field, make_call, make_value, make_named, make_bracket, make_first, make_element, make_tuple, make_head, make_inner, make_value_return, make_raise, make_assert, make_eval, make_declare, make_assign, make_augment, make_if, make_elif, make_while, make_with, make_try, make_try_finally, make_handler, make_only, make_next, make_param, make_typed_param, make_mark, make_func, make_member, make_base, make_base_of, make_class, make_item, make_module}

-- Some expression begins with this token.
abbrev pub starts_expr : TokenForm → Bool
starts_expr (forms.Name n) = true
starts_expr (forms.Number n) = true
starts_expr (forms.Str n) = true
starts_expr (forms.Key keys.True) = true
starts_expr (forms.Key keys.False) = true
starts_expr (forms.Key keys.None) = true
starts_expr (forms.Key keys.Not) = true
starts_expr (forms.Mark marks.Minus) = true
starts_expr (forms.Mark marks.OpenParen) = true
starts_expr f = false

-- The same move, and then these.
abbrev pub and_then : Move → List Sym → Move
and_then (take ys vs) zs = take (ys ++ zs) vs
and_then skip zs = skip
and_then stop zs = stop

-- what may stand after the first part of an operand, with these behind it
abbrev pub prod_of : List Sym → List Sym
prod_of zs = un ∷ tail_prod ∷ zs

abbrev pub sum_of : List Sym → List Sym
sum_of zs = un ∷ tail_prod ∷ tail_sum ∷ zs

abbrev pub expr_of : List Sym → List Sym
expr_of zs = neg ∷ tail_and ∷ tail_or ∷ zs

-- operands
abbrev pub next_un : Place → TokenForm → Move
next_un p (forms.Name n) = take (tail_post ∷ []) (vexpr (node p (exprs.Name n)) ∷ [])
next_un p (forms.Number n) = take (tail_post ∷ []) (vexpr (node p (exprs.Number n)) ∷ [])
next_un p (forms.Str n) = take (tail_post ∷ []) (vexpr (node p (exprs.Str n)) ∷ [])
next_un p (forms.Key keys.True) = take (tail_post ∷ []) (vexpr (node p (exprs.Truth true)) ∷ [])
next_un p (forms.Key keys.False) = take (tail_post ∷ []) (vexpr (node p (exprs.Truth false)) ∷ [])
next_un p (forms.Key keys.None) = take (tail_post ∷ []) (vexpr (node p exprs.Nil) ∷ [])
next_un p (forms.Mark marks.OpenParen) = take (in_bracket p ∷ tail_post ∷ []) []
next_un p (forms.Mark marks.Minus) = take (un ∷ make (make_negate p) ∷ []) []
next_un p f = stop

abbrev pub next_neg : Place → TokenForm → Move
next_neg p (forms.Key keys.Not) = take (neg ∷ make (make_not p) ∷ []) []
next_neg p f = and_then (next_un p f) (tail_prod ∷ tail_sum ∷ tail_cmp ∷ [])

abbrev pub next_expr : Place → TokenForm → List Sym → Move
next_expr p f zs = and_then (next_neg p f) (tail_and ∷ tail_or ∷ zs)

-- what may follow an operand
abbrev pub next_post : Place → TokenForm → Move
next_post p (forms.Mark marks.Dot) = take (want_name ∷ make make_field ∷ tail_post ∷ []) []
next_post p (forms.Mark marks.OpenParen) = take (args ∷ tail_post ∷ []) (vargs [] ∷ [])
next_post p f = skip

abbrev pub next_prod : Place → TokenForm → Move
next_prod p (forms.Mark marks.Star) = take (un ∷ make (make_binary p signs.Times) ∷ tail_prod ∷ []) []
next_prod p (forms.Mark marks.Slash) = take (un ∷ make (make_binary p signs.Divide) ∷ tail_prod ∷ []) []
next_prod p (forms.Mark marks.TwoSlashes) = take (un ∷ make (make_binary p signs.FloorDivide) ∷ tail_prod ∷ []) []
next_prod p (forms.Mark marks.Percent) = take (un ∷ make (make_binary p signs.Modulo) ∷ tail_prod ∷ []) []
next_prod p f = skip

abbrev pub next_sum : Place → TokenForm → Move
next_sum p (forms.Mark marks.Plus) = take (un ∷ tail_prod ∷ make (make_binary p signs.Plus) ∷ tail_sum ∷ []) []
next_sum p (forms.Mark marks.Minus) = take (un ∷ tail_prod ∷ make (make_binary p signs.Minus) ∷ tail_sum ∷ []) []
next_sum p f = skip

-- an operator of a chain, and what stands for it
abbrev pub compare_with : Place → Comparison → List Sym
compare_with p c = un ∷ tail_prod ∷ tail_sum ∷ make (make_link p c) ∷ links ∷ []

abbrev pub next_link : List Value → Place → TokenForm → Move
next_link vs p (forms.Mark marks.Less) = take (compare_with p compares.Less) vs
next_link vs p (forms.Mark marks.LessEqual) = take (compare_with p compares.LessEqual) vs
next_link vs p (forms.Mark marks.Greater) = take (compare_with p compares.Greater) vs
next_link vs p (forms.Mark marks.GreaterEqual) = take (compare_with p compares.GreaterEqual) vs
next_link vs p (forms.Mark marks.Equal) = take (compare_with p compares.Equal) vs
next_link vs p (forms.Mark marks.NotEqual) = take (compare_with p compares.NotEqual) vs
next_link vs p (forms.Key keys.Is) = take (is_tail p ∷ []) vs
next_link vs p f = skip

abbrev pub next_is : Place → Place → TokenForm → Move
next_is q p (forms.Key keys.Not) = take (compare_with q compares.IsNot) []
next_is q p f = and_then (next_un p f) (tail_prod ∷ tail_sum ∷ make (make_link q compares.Is) ∷ links ∷ [])

abbrev pub next_and : Place → TokenForm → Move
next_and p (forms.Key keys.And) = take (neg ∷ make (make_and p) ∷ tail_and ∷ []) []
next_and p f = skip

abbrev pub next_or : Place → TokenForm → Move
next_or p (forms.Key keys.Or) = take (neg ∷ tail_and ∷ make (make_or p) ∷ tail_or ∷ []) []
next_or p f = skip

-- brackets
abbrev pub next_in_bracket : Place → Place → TokenForm → Move
next_in_bracket q p (forms.Mark marks.CloseParen) = take [] (vexpr (node q (exprs.Tuple [])) ∷ [])
next_in_bracket q p f = next_expr p f (bracket_tail q ∷ [])

abbrev pub next_bracket : Place → TokenForm → Move
next_bracket q (forms.Mark marks.CloseParen) = take (make (make_bracket q) ∷ []) []
next_bracket q (forms.Mark marks.Comma) = take (make make_first ∷ elements q ∷ []) []
next_bracket q f = stop

abbrev pub next_elements : Place → Place → TokenForm → Move
next_elements q p (forms.Mark marks.CloseParen) = take (make (make_tuple q) ∷ []) []
next_elements q p f = next_expr p f (make make_element ∷ elements_tail q ∷ [])

abbrev pub next_element : Place → TokenForm → Move
next_element q (forms.Mark marks.CloseParen) = take (make (make_tuple q) ∷ []) []
next_element q (forms.Mark marks.Comma) = take (elements q ∷ []) []
next_element q f = stop

abbrev pub next_args : Place → TokenForm → Move
next_args p (forms.Mark marks.CloseParen) = take (make make_call ∷ []) []
next_args p f = next_expr p f (arg_tail ∷ args_tail ∷ [])

abbrev pub next_arg_tail : TokenForm → Move
next_arg_tail (forms.Mark marks.Assign) = take (expr_of (make make_named ∷ [])) []
next_arg_tail f = skip

abbrev pub next_args_tail : TokenForm → Move
next_args_tail (forms.Mark marks.CloseParen) = take (make make_call ∷ []) []
next_args_tail (forms.Mark marks.Comma) = take (args ∷ []) []
next_args_tail f = stop

-- types
abbrev pub next_ty_atom : Place → TokenForm → Move
next_ty_atom p (forms.Name n) = take [] (vname p n ∷ [])
next_ty_atom p (forms.Str n) = take [] (vname p n ∷ [])
next_ty_atom p (forms.Key keys.None) = take [] (vname p (codes "None") ∷ [])
next_ty_atom p f = stop

abbrev pub next_ty_tail : TokenForm → Move
next_ty_tail (forms.Mark marks.OpenBracket) = take (ty_atom ∷ fixed close_bracket ∷ make make_inner ∷ []) []
next_ty_tail f = skip

-- statements
abbrev pub next_simple : Place → TokenForm → Move
next_simple p (forms.Key keys.Pass) = take [] (vstmt (statement p states.Pass) ∷ [])
next_simple p (forms.Key keys.Break) = take [] (vstmt (statement p states.Break) ∷ [])
next_simple p (forms.Key keys.Continue) = take [] (vstmt (statement p states.Continue) ∷ [])
next_simple p (forms.Key keys.Return) = take (return_tail p ∷ []) []
next_simple p (forms.Key keys.Raise) = take (want_name ∷ fixed open_paren ∷ fixed close_paren ∷ make (make_raise p) ∷ []) []
next_simple p (forms.Key keys.Assert) = take (expr_of (make (make_assert p) ∷ [])) []
next_simple p f = next_expr p f (simple_tail p ∷ [])

abbrev pub next_return : Place → Place → TokenForm → Move
next_return q p f = if starts_expr f then next_expr p f (make (make_value_return q) ∷ []) else skip

abbrev pub augment_with : Place → Place → Arithmetic → Move
augment_with q p o = take (expr_of (make (make_augment q p o) ∷ [])) []

abbrev pub next_simple_tail : Place → Place → TokenForm → Move
next_simple_tail q p (forms.Mark marks.Colon) = take (ty_atom ∷ ty_tail ∷ fixed assign ∷ expr_of (make (make_declare q) ∷ [])) []
next_simple_tail q p (forms.Mark marks.Assign) = take (expr_of (make (make_assign q) ∷ [])) []
next_simple_tail q p (forms.Mark marks.PlusAssign) = augment_with q p signs.Plus
next_simple_tail q p (forms.Mark marks.MinusAssign) = augment_with q p signs.Minus
next_simple_tail q p (forms.Mark marks.StarAssign) = augment_with q p signs.Times
next_simple_tail q p (forms.Mark marks.TwoSlashesAssign) = augment_with q p signs.FloorDivide
next_simple_tail q p (forms.Mark marks.PercentAssign) = augment_with q p signs.Modulo
next_simple_tail q p f = skip

abbrev pub next_stmt : Place → TokenForm → Move
next_stmt p (forms.Key keys.If) = take (expr_of (fixed colon ∷ block ∷ make (push (velifs [])) ∷ elifs ∷ else_part ∷ make (make_if p) ∷ [])) []
next_stmt p (forms.Key keys.While) = take (expr_of (fixed colon ∷ block ∷ make (make_while p) ∷ [])) []
next_stmt p (forms.Key keys.Try) = take (fixed colon ∷ block ∷ try_tail p ∷ []) []
next_stmt p (forms.Key keys.With) = take (expr_of (fixed colon ∷ block ∷ make (make_with p) ∷ [])) []
next_stmt p f = and_then (next_simple p f) (fixed newline ∷ [])

abbrev pub next_block : Place → TokenForm → Move
next_block p forms.Newline = take (fixed indent ∷ stmt ∷ make make_only ∷ stmts ∷ []) []
next_block p f = and_then (next_simple p f) (fixed newline ∷ make make_only ∷ [])

abbrev pub next_stmts : Place → TokenForm → Move
next_stmts p forms.Dedent = take [] []
next_stmts p f = and_then (next_stmt p f) (make make_next ∷ stmts ∷ [])

abbrev pub next_elifs : Place → TokenForm → Move
next_elifs p (forms.Key keys.Elif) = take (expr_of (fixed colon ∷ block ∷ make (make_elif p) ∷ elifs ∷ [])) []
next_elifs p f = skip

abbrev pub next_else : TokenForm → Move
next_else (forms.Key keys.Else) = take (fixed colon ∷ block ∷ []) []
next_else f = skip

abbrev pub next_finally : TokenForm → Move
next_finally (forms.Key keys.Finally) = take (fixed colon ∷ block ∷ []) []
next_finally f = skip

-- a handler, and these behind it
abbrev pub handler_with : List Sym → List Sym
handler_with zs = want_name ∷ fixed colon ∷ block ∷ make make_handler ∷ handlers ∷ zs

abbrev pub next_try : Place → TokenForm → Move
next_try q (forms.Key keys.Except) = take (handler_with (else_part ∷ finally_part ∷ make (make_try q) ∷ [])) (vhandlers [] ∷ [])
next_try q (forms.Key keys.Finally) = take (fixed colon ∷ block ∷ make (make_try_finally q) ∷ []) []
next_try q f = stop

abbrev pub next_handlers : TokenForm → Move
next_handlers (forms.Key keys.Except) = take (handler_with []) []
next_handlers f = skip

-- functions
abbrev pub next_params : Place → TokenForm → Move
next_params p (forms.Mark marks.CloseParen) = take [] []
next_params p (forms.Name n) = take (param_tail ∷ params_tail ∷ []) (vname p n ∷ [])
next_params p f = stop

abbrev pub next_param_tail : TokenForm → Move
next_param_tail (forms.Mark marks.Colon) = take (ty_atom ∷ ty_tail ∷ make make_typed_param ∷ []) []
next_param_tail f = skip

abbrev pub next_params_tail : TokenForm → Move
next_params_tail (forms.Mark marks.CloseParen) = take [] []
next_params_tail (forms.Mark marks.Comma) = take (params ∷ []) []
next_params_tail f = stop

-- a function behind the word `def`, and these behind it
abbrev pub func_with : List Sym → List Sym
func_with zs = want_name ∷ fixed open_paren ∷ make (push (vparams [])) ∷ params ∷ fixed arrow ∷ ty_atom ∷ ty_tail ∷ fixed colon ∷ block ∷ make make_func ∷ zs

-- a decorator behind its mark, and these behind it
abbrev pub decorator_with : List Sym → List Sym
decorator_with zs = want_name ∷ make make_mark ∷ fixed newline ∷ decorators ∷ zs

abbrev pub next_decorators : TokenForm → Move
next_decorators (forms.Mark marks.At) = take (decorator_with []) []
next_decorators f = skip

-- classes
abbrev pub next_members : TokenForm → Move
next_members forms.Dedent = take [] []
next_members (forms.Key keys.Pass) = take (fixed newline ∷ members ∷ []) []
next_members (forms.Mark marks.At) = take (decorator_with (fixed word_def ∷ func_with (make make_member ∷ members ∷ []))) (vmarks [] ∷ [])
next_members (forms.Key keys.Def) = take (func_with (make make_member ∷ members ∷ [])) (vmarks [] ∷ [])
next_members f = stop

abbrev pub next_class_body : TokenForm → Move
next_class_body (forms.Key keys.Pass) = take (fixed newline ∷ []) (vfuncs [] ∷ [])
next_class_body forms.Newline = take (fixed indent ∷ doc ∷ members ∷ []) (vfuncs [] ∷ [])
next_class_body f = stop

abbrev pub next_doc : TokenForm → Move
next_doc (forms.Str n) = take (fixed newline ∷ []) []
next_doc f = skip

abbrev pub next_base : TokenForm → Move
next_base (forms.Mark marks.OpenParen) = take (in_base ∷ []) []
next_base f = skip

abbrev pub next_in_base : Place → TokenForm → Move
next_in_base p (forms.Mark marks.CloseParen) = take [] (vbase None ∷ [])
next_in_base p (forms.Name n) = take (base_tail ∷ []) (vname p n ∷ [])
next_in_base p f = stop

abbrev pub next_base_tail : TokenForm → Move
next_base_tail (forms.Mark marks.CloseParen) = take (make make_base ∷ []) []
next_base_tail (forms.Mark marks.OpenBracket) = take (ty_atom ∷ fixed close_bracket ∷ fixed close_paren ∷ make make_base_of ∷ []) []
next_base_tail f = stop

-- modules
abbrev pub next_name : Place → TokenForm → Move
next_name p (forms.Name n) = take [] (vname p n ∷ [])
next_name p f = stop

abbrev pub next_any_name : TokenForm → Move
next_any_name (forms.Name n) = take [] []
next_any_name f = stop

abbrev pub next_dots : TokenForm → Move
next_dots (forms.Mark marks.Dot) = take (any_name ∷ dots ∷ []) []
next_dots f = skip

abbrev pub next_commas : TokenForm → Move
next_commas (forms.Mark marks.Comma) = take (any_name ∷ commas ∷ []) []
next_commas f = skip

abbrev pub next_imported : TokenForm → Move
next_imported (forms.Mark marks.Star) = take [] []
next_imported (forms.Name n) = take (commas ∷ []) []
next_imported f = stop

abbrev pub next_imports : TokenForm → Move
next_imports (forms.Key keys.From) = take (any_name ∷ dots ∷ fixed word_import ∷ imported ∷ fixed newline ∷ imports ∷ []) []
next_imports f = skip

abbrev pub next_items : Place → TokenForm → Move
next_items p forms.End = take (make (make_module p) ∷ []) []
next_items p (forms.Key keys.Class) = take (want_name ∷ base ∷ fixed colon ∷ class_body ∷ make make_class ∷ items ∷ []) []
next_items p (forms.Mark marks.At) = take (decorator_with (fixed word_def ∷ func_with (make make_item ∷ items ∷ []))) (vmarks [] ∷ [])
next_items p (forms.Key keys.Def) = take (func_with (make make_item ∷ items ∷ [])) (vmarks [] ∷ [])
next_items p f = stop

abbrev pub next : Sym → Place → TokenForm → Move
next (fixed x) p f = if fits x f then take [] [] else stop
next (make g) p f = skip
next want_name p f = next_name p f
next neg p f = next_neg p f
next un p f = next_un p f
next tail_post p f = next_post p f
next tail_prod p f = next_prod p f
next tail_sum p f = next_sum p f
next tail_cmp p f = next_link (vlinks [] ∷ []) p f
next (is_tail q) p f = next_is q p f
next links p f = next_link [] p f
next tail_and p f = next_and p f
next tail_or p f = next_or p f
next (in_bracket q) p f = next_in_bracket q p f
next (bracket_tail q) p f = next_bracket q f
next (elements q) p f = next_elements q p f
next (elements_tail q) p f = next_element q f
next args p f = next_args p f
next arg_tail p f = next_arg_tail f
next args_tail p f = next_args_tail f
next ty_atom p f = next_ty_atom p f
next ty_tail p f = next_ty_tail f
next simple p f = next_simple p f
next (return_tail q) p f = next_return q p f
next (simple_tail q) p f = next_simple_tail q p f
next stmt p f = next_stmt p f
next block p f = next_block p f
next stmts p f = next_stmts p f
next elifs p f = next_elifs p f
next else_part p f = next_else f
next finally_part p f = next_finally f
next (try_tail q) p f = next_try q f
next handlers p f = next_handlers f
next params p f = next_params p f
next param_tail p f = next_param_tail f
next params_tail p f = next_params_tail f
next decorators p f = next_decorators f
next members p f = next_members f
next class_body p f = next_class_body f
next doc p f = next_doc f
next base p f = next_base f
next in_base p f = next_in_base p f
next base_tail p f = next_base_tail f
next any_name p f = next_any_name f
next dots p f = next_dots f
next commas p f = next_commas f
next imported p f = next_imported f
next imports p f = next_imports f
next items p f = next_items p f

-- What a symbol makes of the newest values where the next token isn't wanted at it.
abbrev pub made : Sym → List Value → List Value
made (make g) V = g V
made links V = make_chain V
made arg_tail V = make_value V
made ty_tail V = make_head V
made (return_tail q) V = vstmt (statement q (states.Return None)) ∷ V
made (simple_tail q) V = make_eval q V
made else_part V = vstmts [] ∷ V
made finally_part V = vstmts [] ∷ V
made param_tail V = make_param V
made base V = vbase None ∷ V
made X V = V
