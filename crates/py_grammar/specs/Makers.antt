-- What is made of the newest values.
use Rattle.std.specs.Prelude.{List, [], ◌∷◌, ◌++◌, Some, None}
use Rattle.py_base.specs.declared.Place.{Place}
use Rattle.raw_syntax.specs.declared.RawExprForm.TheVariants as exprs
use Rattle.raw_syntax.specs.declared.RawArgument.TheVariants as arguments
use Rattle.raw_syntax.specs.declared.Arithmetic.{Arithmetic}
use Rattle.raw_syntax.specs.declared.Comparison.{Comparison}
use Rattle.raw_syntax.specs.declared.RawStmtForm.TheVariants as forms
use Rattle.raw_syntax.specs.declared.RawItem.TheVariants as things
use Rattle.py_grammar.specs.ExprGrammar.{node, link, place_of}
use Rattle.py_grammar.specs.StmtGrammar.{statement, elif_part, handler, type_of}
use Rattle.py_grammar.specs.ModuleGrammar.{parameter, function, class_of, module_of}
use Rattle.py_grammar.specs.Symbols.{Value, vexpr, vexprs, vargs, vlinks, vname, vty, vstmt, vstmts, velifs, vhandlers, vparams, vmarks, vfunc, vfuncs, vbase, vitems, vmodule}

abbrev pub push : Value → List Value → List Value
push v V = v ∷ V

-- expressions
abbrev pub make_or : Place → List Value → List Value
make_or p (vexpr f ∷ vexpr e ∷ V) = vexpr (node p (exprs.Or e f)) ∷ V
make_or p V = V

abbrev pub make_and : Place → List Value → List Value
make_and p (vexpr f ∷ vexpr e ∷ V) = vexpr (node p (exprs.And e f)) ∷ V
make_and p V = V

abbrev pub make_not : Place → List Value → List Value
make_not p (vexpr e ∷ V) = vexpr (node p (exprs.Not e)) ∷ V
make_not p V = V

abbrev pub make_link : Place → Comparison → List Value → List Value
make_link p c (vexpr f ∷ vlinks ls ∷ V) = vlinks (ls ++ link p c f ∷ []) ∷ V
make_link p c V = V

abbrev pub make_chain : List Value → List Value
make_chain (vlinks (l ∷ ls) ∷ vexpr e ∷ V) = vexpr (node l.place (exprs.Chain e (l ∷ ls))) ∷ V
make_chain V = V

abbrev pub make_binary : Place → Arithmetic → List Value → List Value
make_binary p o (vexpr f ∷ vexpr e ∷ V) = vexpr (node p (exprs.Binary o e f)) ∷ V
make_binary p o V = V

abbrev pub make_negate : Place → List Value → List Value
make_negate p (vexpr e ∷ V) = vexpr (node p (exprs.Negate e)) ∷ V
make_negate p V = V

abbrev pub make_field : List Value → List Value
make_field (vname p n ∷ vexpr e ∷ V) = vexpr (node p (exprs.Field e n)) ∷ V
make_field V = V

abbrev pub make_call : List Value → List Value
make_call (vargs xs ∷ vexpr e ∷ V) = vexpr (node (place_of e) (exprs.Call e xs)) ∷ V
make_call V = V

abbrev pub make_value : List Value → List Value
make_value (vexpr e ∷ vargs xs ∷ V) = vargs (xs ++ arguments.Value e ∷ []) ∷ V
make_value V = V

abbrev pub make_named : List Value → List Value
make_named (vexpr f ∷ vexpr e ∷ vargs xs ∷ V) = vargs (xs ++ arguments.Named e f ∷ []) ∷ V
make_named V = V

abbrev pub make_bracket : Place → List Value → List Value
make_bracket p (vexpr e ∷ V) = vexpr (node p (exprs.Bracket e)) ∷ V
make_bracket p V = V

abbrev pub make_first : List Value → List Value
make_first (vexpr e ∷ V) = vexprs (e ∷ []) ∷ V
make_first V = V

abbrev pub make_element : List Value → List Value
make_element (vexpr e ∷ vexprs es ∷ V) = vexprs (es ++ e ∷ []) ∷ V
make_element V = V

abbrev pub make_tuple : Place → List Value → List Value
make_tuple p (vexprs es ∷ V) = vexpr (node p (exprs.Tuple es)) ∷ V
make_tuple p V = V

-- types
abbrev pub make_head : List Value → List Value
make_head (vname p n ∷ V) = vty (type_of p n None) ∷ V
make_head V = V

abbrev pub make_inner : List Value → List Value
make_inner (vname q m ∷ vname p n ∷ V) = vty (type_of p n (Some m)) ∷ V
make_inner V = V

-- statements
abbrev pub make_value_return : Place → List Value → List Value
make_value_return p (vexpr e ∷ V) = vstmt (statement p (forms.Return (Some e))) ∷ V
make_value_return p V = V

abbrev pub make_raise : Place → List Value → List Value
make_raise p (vname q n ∷ V) = vstmt (statement p (forms.Raise q n)) ∷ V
make_raise p V = V

abbrev pub make_assert : Place → List Value → List Value
make_assert p (vexpr e ∷ V) = vstmt (statement p (forms.Assert e)) ∷ V
make_assert p V = V

abbrev pub make_eval : Place → List Value → List Value
make_eval p (vexpr e ∷ V) = vstmt (statement p (forms.Eval e)) ∷ V
make_eval p V = V

abbrev pub make_declare : Place → List Value → List Value
make_declare p (vexpr f ∷ vty t ∷ vexpr e ∷ V) = vstmt (statement p (forms.Declare e t f)) ∷ V
make_declare p V = V

abbrev pub make_assign : Place → List Value → List Value
make_assign p (vexpr f ∷ vexpr e ∷ V) = vstmt (statement p (forms.Assign e f)) ∷ V
make_assign p V = V

abbrev pub make_augment : Place → Place → Arithmetic → List Value → List Value
make_augment p q o (vexpr f ∷ vexpr e ∷ V) = vstmt (statement p (forms.Augment e q o f)) ∷ V
make_augment p q o V = V

abbrev pub make_if : Place → List Value → List Value
make_if p (vstmts other ∷ velifs es ∷ vstmts ss ∷ vexpr e ∷ V) = vstmt (statement p (forms.If e ss es other)) ∷ V
make_if p V = V

abbrev pub make_elif : Place → List Value → List Value
make_elif p (vstmts ss ∷ vexpr e ∷ velifs es ∷ V) = velifs (es ++ elif_part p e ss ∷ []) ∷ V
make_elif p V = V

abbrev pub make_while : Place → List Value → List Value
make_while p (vstmts ss ∷ vexpr e ∷ V) = vstmt (statement p (forms.While e ss)) ∷ V
make_while p V = V

abbrev pub make_with : Place → List Value → List Value
make_with p (vstmts ss ∷ vexpr e ∷ V) = vstmt (statement p (forms.With e ss)) ∷ V
make_with p V = V

abbrev pub make_try : Place → List Value → List Value
make_try p (vstmts last ∷ vstmts other ∷ vhandlers hs ∷ vstmts ss ∷ V) = vstmt (statement p (forms.Try ss hs other last)) ∷ V
make_try p V = V

abbrev pub make_try_finally : Place → List Value → List Value
make_try_finally p (vstmts last ∷ vstmts ss ∷ V) = vstmt (statement p (forms.Try ss [] [] last)) ∷ V
make_try_finally p V = V

abbrev pub make_handler : List Value → List Value
make_handler (vstmts ss ∷ vname p n ∷ vhandlers hs ∷ V) = vhandlers (hs ++ handler p n ss ∷ []) ∷ V
make_handler V = V

abbrev pub make_only : List Value → List Value
make_only (vstmt s ∷ V) = vstmts (s ∷ []) ∷ V
make_only V = V

abbrev pub make_next : List Value → List Value
make_next (vstmt s ∷ vstmts ss ∷ V) = vstmts (ss ++ s ∷ []) ∷ V
make_next V = V

-- functions, classes and modules
abbrev pub make_param : List Value → List Value
make_param (vname p n ∷ vparams ps ∷ V) = vparams (ps ++ parameter p n None ∷ []) ∷ V
make_param V = V

abbrev pub make_typed_param : List Value → List Value
make_typed_param (vty t ∷ vname p n ∷ vparams ps ∷ V) = vparams (ps ++ parameter p n (Some t) ∷ []) ∷ V
make_typed_param V = V

abbrev pub make_mark : List Value → List Value
make_mark (vname p n ∷ vmarks ns ∷ V) = vmarks (ns ++ n ∷ []) ∷ V
make_mark V = V

abbrev pub make_func : List Value → List Value
make_func (vstmts ss ∷ vty t ∷ vparams ps ∷ vname p n ∷ vmarks ns ∷ V) = vfunc (function p ns n ps t ss) ∷ V
make_func V = V

abbrev pub make_member : List Value → List Value
make_member (vfunc f ∷ vfuncs fs ∷ V) = vfuncs (fs ++ f ∷ []) ∷ V
make_member V = V

abbrev pub make_base : List Value → List Value
make_base (vname p n ∷ V) = vbase (Some (type_of p n None)) ∷ V
make_base V = V

abbrev pub make_base_of : List Value → List Value
make_base_of (vname q m ∷ vname p n ∷ V) = vbase (Some (type_of p n (Some m))) ∷ V
make_base_of V = V

abbrev pub make_class : List Value → List Value
make_class (vfuncs fs ∷ vbase b ∷ vname p n ∷ vitems xs ∷ V) = vitems (xs ++ things.Class (class_of p n b fs) ∷ []) ∷ V
make_class V = V

abbrev pub make_item : List Value → List Value
make_item (vfunc f ∷ vitems xs ∷ V) = vitems (xs ++ things.Func f ∷ []) ∷ V
make_item V = V

abbrev pub make_module : Place → List Value → List Value
make_module p (vitems xs ∷ V) = vmodule (module_of xs p) ∷ V
make_module p V = V
