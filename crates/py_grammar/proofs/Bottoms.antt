-- The symbol of items stands at the bottom of the stack alone, so a list that ends with the end of a text is never too
-- short.
use Rattle.std.proofs.Common.{Bool, true, false, ◌≡◌, arith, refl, sym, List, [], ◌∷◌, ◌++◌, subst, append_assoc, Option, Some, None, if◌then◌else◌}
use Rattle.py_base.specs.declared.Place.{Place}
use Rattle.py_tokens.specs.declared.Token.{Token}
use Rattle.py_tokens.specs.declared.TokenForm.{TokenForm}
use Rattle.py_tokens.specs.declared.TokenForm.TheVariants as forms
use Rattle.py_tokens.specs.declared.Keyword.TheVariants as keys
use Rattle.py_tokens.specs.declared.Mark.TheVariants as marks
use Rattle.raw_syntax.specs.declared.Comparison.TheVariants as compares
use Rattle.py_grammar.specs.Symbols.{Value, vitems, vlinks, Fixed, newline, indent, colon, assign, arrow, open_paren, close_paren, close_bracket, word_def, word_import, fits, Sym, fixed, make, want_name, neg, un, tail_post, tail_prod, tail_sum, tail_cmp, is_tail, links, tail_and, tail_or, in_bracket, bracket_tail, elements, elements_tail, args, arg_tail, args_tail, ty_atom, ty_tail, simple, return_tail, simple_tail, stmt, block, stmts, elifs, else_part, finally_part, try_tail, handlers, params, param_tail, params_tail, decorators, members, class_body, doc, base, in_base, base_tail, any_name, dots, commas, imported, imports, items, Move, take, skip, stop}
use Rattle.py_grammar.specs.Makers.{make_link, make_element, make_value_return, make_only, make_next}
use Rattle.py_grammar.specs.Moves.{starts_expr, and_then, next_un, next_neg, next_expr, next_post, next_prod, next_sum, next_link, next_is, next_and, next_or, next_in_bracket, next_bracket, next_elements, next_element, next_args, next_arg_tail, next_args_tail, next_ty_atom, next_ty_tail, next_simple, next_return, next_simple_tail, next_stmt, next_block, next_stmts, next_elifs, next_else, next_finally, next_try, next_handlers, next_params, next_param_tail, next_params_tail, next_decorators, next_members, next_class_body, next_doc, next_base, next_in_base, next_base_tail, next_name, next_any_name, next_dots, next_commas, next_imported, next_imports, next_items, next, made}
use Rattle.py_grammar.specs.Machine.{then_do, step, Out, bad, short, done, settle, run, run_module}
use Rattle.py_grammar.proofs.Phrases.{tok}

-- Nothing stands below the symbol of items.
abbrev Bottom : List Sym → Type 0
Bottom [] = Unit {0}
Bottom (items ∷ S) = S ≡ []
Bottom (X ∷ S) = Bottom S

abbrev Kept : Move → List Sym → Type 0
Kept (take ys vs) S = Bottom (ys ++ S)
Kept m S = Unit {0}

keep_then : (m : Move) (zs : List Sym) → ((S : List Sym) → Bottom S → Bottom (zs ++ S)) → ((S : List Sym) → Bottom S → Kept m S) → (S : List Sym) → Bottom S → Kept (and_then m zs) S
keep_then (take ys vs) zs g h S b = subst (λ (T : List Sym). Bottom T) (sym (append_assoc ys zs S)) (h (zs ++ S) (g S b))
keep_then skip zs g h S b = tt
keep_then stop zs g h S b = tt

keep_un : (x0 : Place) (x1 : TokenForm) (S : List Sym) → Bottom S → Kept (next_un x0 x1) S
keep_un p (forms.Name n) S b = b
keep_un p (forms.Number n) S b = b
keep_un p (forms.Str n) S b = b
keep_un p (forms.Key keys.True) S b = b
keep_un p (forms.Key keys.False) S b = b
keep_un p (forms.Key keys.None) S b = b
keep_un p (forms.Mark marks.OpenParen) S b = b
keep_un p (forms.Mark marks.Minus) S b = b
keep_un p f S b = tt

keep_neg : (x0 : Place) (x1 : TokenForm) (S : List Sym) → Bottom S → Kept (next_neg x0 x1) S
keep_neg p (forms.Key keys.Not) S b = b
keep_neg p f S b = keep_then (next_un p f) (tail_prod ∷ tail_sum ∷ tail_cmp ∷ []) (λ T d. d) (keep_un p f) S b

keep_post : (x0 : Place) (x1 : TokenForm) (S : List Sym) → Bottom S → Kept (next_post x0 x1) S
keep_post p (forms.Mark marks.Dot) S b = b
keep_post p (forms.Mark marks.OpenParen) S b = b
keep_post p f S b = tt

keep_prod : (x0 : Place) (x1 : TokenForm) (S : List Sym) → Bottom S → Kept (next_prod x0 x1) S
keep_prod p (forms.Mark marks.Star) S b = b
keep_prod p (forms.Mark marks.Slash) S b = b
keep_prod p (forms.Mark marks.TwoSlashes) S b = b
keep_prod p (forms.Mark marks.Percent) S b = b
keep_prod p f S b = tt

keep_sum : (x0 : Place) (x1 : TokenForm) (S : List Sym) → Bottom S → Kept (next_sum x0 x1) S
keep_sum p (forms.Mark marks.Plus) S b = b
keep_sum p (forms.Mark marks.Minus) S b = b
keep_sum p f S b = tt

keep_link : (x0 : List Value) (x1 : Place) (x2 : TokenForm) (S : List Sym) → Bottom S → Kept (next_link x0 x1 x2) S
keep_link vs p (forms.Mark marks.Less) S b = b
keep_link vs p (forms.Mark marks.LessEqual) S b = b
keep_link vs p (forms.Mark marks.Greater) S b = b
keep_link vs p (forms.Mark marks.GreaterEqual) S b = b
keep_link vs p (forms.Mark marks.Equal) S b = b
keep_link vs p (forms.Mark marks.NotEqual) S b = b
keep_link vs p (forms.Key keys.Is) S b = b
keep_link vs p f S b = tt

keep_is : (x0 : Place) (x1 : Place) (x2 : TokenForm) (S : List Sym) → Bottom S → Kept (next_is x0 x1 x2) S
keep_is q p (forms.Key keys.Not) S b = b
keep_is q p f S b = keep_then (next_un p f) (tail_prod ∷ tail_sum ∷ make (make_link q compares.Is) ∷ links ∷ []) (λ T d. d) (keep_un p f) S b

keep_and : (x0 : Place) (x1 : TokenForm) (S : List Sym) → Bottom S → Kept (next_and x0 x1) S
keep_and p (forms.Key keys.And) S b = b
keep_and p f S b = tt

keep_or : (x0 : Place) (x1 : TokenForm) (S : List Sym) → Bottom S → Kept (next_or x0 x1) S
keep_or p (forms.Key keys.Or) S b = b
keep_or p f S b = tt

keep_in_bracket : (x0 : Place) (x1 : Place) (x2 : TokenForm) (S : List Sym) → Bottom S → Kept (next_in_bracket x0 x1 x2) S
keep_in_bracket q p (forms.Mark marks.CloseParen) S b = b
keep_in_bracket q p f S b = keep_then (next_neg p f) (tail_and ∷ tail_or ∷ bracket_tail q ∷ []) (λ T d. d) (keep_neg p f) S b

keep_bracket : (x0 : Place) (x1 : TokenForm) (S : List Sym) → Bottom S → Kept (next_bracket x0 x1) S
keep_bracket q (forms.Mark marks.CloseParen) S b = b
keep_bracket q (forms.Mark marks.Comma) S b = b
keep_bracket q f S b = tt

keep_elements : (x0 : Place) (x1 : Place) (x2 : TokenForm) (S : List Sym) → Bottom S → Kept (next_elements x0 x1 x2) S
keep_elements q p (forms.Mark marks.CloseParen) S b = b
keep_elements q p f S b = keep_then (next_neg p f) (tail_and ∷ tail_or ∷ make make_element ∷ elements_tail q ∷ []) (λ T d. d) (keep_neg p f) S b

keep_element : (x0 : Place) (x1 : TokenForm) (S : List Sym) → Bottom S → Kept (next_element x0 x1) S
keep_element q (forms.Mark marks.CloseParen) S b = b
keep_element q (forms.Mark marks.Comma) S b = b
keep_element q f S b = tt

keep_args : (x0 : Place) (x1 : TokenForm) (S : List Sym) → Bottom S → Kept (next_args x0 x1) S
keep_args p (forms.Mark marks.CloseParen) S b = b
keep_args p f S b = keep_then (next_neg p f) (tail_and ∷ tail_or ∷ arg_tail ∷ args_tail ∷ []) (λ T d. d) (keep_neg p f) S b

keep_arg_tail : (x0 : TokenForm) (S : List Sym) → Bottom S → Kept (next_arg_tail x0) S
keep_arg_tail (forms.Mark marks.Assign) S b = b
keep_arg_tail f S b = tt

keep_args_tail : (x0 : TokenForm) (S : List Sym) → Bottom S → Kept (next_args_tail x0) S
keep_args_tail (forms.Mark marks.CloseParen) S b = b
keep_args_tail (forms.Mark marks.Comma) S b = b
keep_args_tail f S b = tt

keep_ty_atom : (x0 : Place) (x1 : TokenForm) (S : List Sym) → Bottom S → Kept (next_ty_atom x0 x1) S
keep_ty_atom p (forms.Name n) S b = b
keep_ty_atom p (forms.Str n) S b = b
keep_ty_atom p (forms.Key keys.None) S b = b
keep_ty_atom p f S b = tt

keep_ty_tail : (x0 : TokenForm) (S : List Sym) → Bottom S → Kept (next_ty_tail x0) S
keep_ty_tail (forms.Mark marks.OpenBracket) S b = b
keep_ty_tail f S b = tt

keep_simple : (x0 : Place) (x1 : TokenForm) (S : List Sym) → Bottom S → Kept (next_simple x0 x1) S
keep_simple p (forms.Key keys.Pass) S b = b
keep_simple p (forms.Key keys.Break) S b = b
keep_simple p (forms.Key keys.Continue) S b = b
keep_simple p (forms.Key keys.Return) S b = b
keep_simple p (forms.Key keys.Raise) S b = b
keep_simple p (forms.Key keys.Assert) S b = b
keep_simple p f S b = keep_then (next_neg p f) (tail_and ∷ tail_or ∷ simple_tail p ∷ []) (λ T d. d) (keep_neg p f) S b

keep_simple_tail : (x0 : Place) (x1 : Place) (x2 : TokenForm) (S : List Sym) → Bottom S → Kept (next_simple_tail x0 x1 x2) S
keep_simple_tail q p (forms.Mark marks.Colon) S b = b
keep_simple_tail q p (forms.Mark marks.Assign) S b = b
keep_simple_tail q p (forms.Mark marks.PlusAssign) S b = b
keep_simple_tail q p (forms.Mark marks.MinusAssign) S b = b
keep_simple_tail q p (forms.Mark marks.StarAssign) S b = b
keep_simple_tail q p (forms.Mark marks.TwoSlashesAssign) S b = b
keep_simple_tail q p (forms.Mark marks.PercentAssign) S b = b
keep_simple_tail q p f S b = tt

keep_stmt : (x0 : Place) (x1 : TokenForm) (S : List Sym) → Bottom S → Kept (next_stmt x0 x1) S
keep_stmt p (forms.Key keys.If) S b = b
keep_stmt p (forms.Key keys.While) S b = b
keep_stmt p (forms.Key keys.Try) S b = b
keep_stmt p (forms.Key keys.With) S b = b
keep_stmt p f S b = keep_then (next_simple p f) (fixed newline ∷ []) (λ T d. d) (keep_simple p f) S b

keep_block : (x0 : Place) (x1 : TokenForm) (S : List Sym) → Bottom S → Kept (next_block x0 x1) S
keep_block p forms.Newline S b = b
keep_block p f S b = keep_then (next_simple p f) (fixed newline ∷ make make_only ∷ []) (λ T d. d) (keep_simple p f) S b

keep_stmts : (x0 : Place) (x1 : TokenForm) (S : List Sym) → Bottom S → Kept (next_stmts x0 x1) S
keep_stmts p forms.Dedent S b = b
keep_stmts p f S b = keep_then (next_stmt p f) (make make_next ∷ stmts ∷ []) (λ T d. d) (keep_stmt p f) S b

keep_elifs : (x0 : Place) (x1 : TokenForm) (S : List Sym) → Bottom S → Kept (next_elifs x0 x1) S
keep_elifs p (forms.Key keys.Elif) S b = b
keep_elifs p f S b = tt

keep_else : (x0 : TokenForm) (S : List Sym) → Bottom S → Kept (next_else x0) S
keep_else (forms.Key keys.Else) S b = b
keep_else f S b = tt

keep_finally : (x0 : TokenForm) (S : List Sym) → Bottom S → Kept (next_finally x0) S
keep_finally (forms.Key keys.Finally) S b = b
keep_finally f S b = tt

keep_try : (x0 : Place) (x1 : TokenForm) (S : List Sym) → Bottom S → Kept (next_try x0 x1) S
keep_try q (forms.Key keys.Except) S b = b
keep_try q (forms.Key keys.Finally) S b = b
keep_try q f S b = tt

keep_handlers : (x0 : TokenForm) (S : List Sym) → Bottom S → Kept (next_handlers x0) S
keep_handlers (forms.Key keys.Except) S b = b
keep_handlers f S b = tt

keep_params : (x0 : Place) (x1 : TokenForm) (S : List Sym) → Bottom S → Kept (next_params x0 x1) S
keep_params p (forms.Mark marks.CloseParen) S b = b
keep_params p (forms.Name n) S b = b
keep_params p f S b = tt

keep_param_tail : (x0 : TokenForm) (S : List Sym) → Bottom S → Kept (next_param_tail x0) S
keep_param_tail (forms.Mark marks.Colon) S b = b
keep_param_tail f S b = tt

keep_params_tail : (x0 : TokenForm) (S : List Sym) → Bottom S → Kept (next_params_tail x0) S
keep_params_tail (forms.Mark marks.CloseParen) S b = b
keep_params_tail (forms.Mark marks.Comma) S b = b
keep_params_tail f S b = tt

keep_decorators : (x0 : TokenForm) (S : List Sym) → Bottom S → Kept (next_decorators x0) S
keep_decorators (forms.Mark marks.At) S b = b
keep_decorators f S b = tt

keep_members : (x0 : TokenForm) (S : List Sym) → Bottom S → Kept (next_members x0) S
keep_members forms.Dedent S b = b
keep_members (forms.Key keys.Pass) S b = b
keep_members (forms.Mark marks.At) S b = b
keep_members (forms.Key keys.Def) S b = b
keep_members f S b = tt

keep_class_body : (x0 : TokenForm) (S : List Sym) → Bottom S → Kept (next_class_body x0) S
keep_class_body (forms.Key keys.Pass) S b = b
keep_class_body forms.Newline S b = b
keep_class_body f S b = tt

keep_doc : (x0 : TokenForm) (S : List Sym) → Bottom S → Kept (next_doc x0) S
keep_doc (forms.Str n) S b = b
keep_doc f S b = tt

keep_base : (x0 : TokenForm) (S : List Sym) → Bottom S → Kept (next_base x0) S
keep_base (forms.Mark marks.OpenParen) S b = b
keep_base f S b = tt

keep_in_base : (x0 : Place) (x1 : TokenForm) (S : List Sym) → Bottom S → Kept (next_in_base x0 x1) S
keep_in_base p (forms.Mark marks.CloseParen) S b = b
keep_in_base p (forms.Name n) S b = b
keep_in_base p f S b = tt

keep_base_tail : (x0 : TokenForm) (S : List Sym) → Bottom S → Kept (next_base_tail x0) S
keep_base_tail (forms.Mark marks.CloseParen) S b = b
keep_base_tail (forms.Mark marks.OpenBracket) S b = b
keep_base_tail f S b = tt

keep_name : (x0 : Place) (x1 : TokenForm) (S : List Sym) → Bottom S → Kept (next_name x0 x1) S
keep_name p (forms.Name n) S b = b
keep_name p f S b = tt

keep_any_name : (x0 : TokenForm) (S : List Sym) → Bottom S → Kept (next_any_name x0) S
keep_any_name (forms.Name n) S b = b
keep_any_name f S b = tt

keep_dots : (x0 : TokenForm) (S : List Sym) → Bottom S → Kept (next_dots x0) S
keep_dots (forms.Mark marks.Dot) S b = b
keep_dots f S b = tt

keep_commas : (x0 : TokenForm) (S : List Sym) → Bottom S → Kept (next_commas x0) S
keep_commas (forms.Mark marks.Comma) S b = b
keep_commas f S b = tt

keep_imported : (x0 : TokenForm) (S : List Sym) → Bottom S → Kept (next_imported x0) S
keep_imported (forms.Mark marks.Star) S b = b
keep_imported (forms.Name n) S b = b
keep_imported f S b = tt

keep_imports : (x0 : TokenForm) (S : List Sym) → Bottom S → Kept (next_imports x0) S
keep_imports (forms.Key keys.From) S b = b
keep_imports f S b = tt

keep_fixed : (c : Bool) (S : List Sym) → Bottom S → Kept (if c then take [] [] else stop) S
keep_fixed true S b = b
keep_fixed false S b = tt

return_by : (q p : Place) (f : TokenForm) (c : Bool) (S : List Sym) → Bottom S → Kept (if c then next_expr p f (make (make_value_return q) ∷ []) else skip) S
return_by q p f true S b = keep_then (next_neg p f) (tail_and ∷ tail_or ∷ make (make_value_return q) ∷ []) (λ T d. d) (keep_neg p f) S b
return_by q p f false S b = tt

keep_return : (q p : Place) (f : TokenForm) (S : List Sym) → Bottom S → Kept (next_return q p f) S
keep_return q p f S b = return_by q p f (starts_expr f) S b

bottom_of : (S : List Sym) → S ≡ [] → Bottom S
bottom_of S e = subst (λ (T : List Sym). Bottom T) (sym e) tt

keep_items : (p : Place) (f : TokenForm) (S : List Sym) → S ≡ [] → Kept (next_items p f) S
keep_items p forms.End S b = bottom_of S b
keep_items p (forms.Key keys.Class) S b = b
keep_items p (forms.Mark marks.At) S b = b
keep_items p (forms.Key keys.Def) S b = b
keep_items p f S b = tt

keep : (X : Sym) (p : Place) (f : TokenForm) (S : List Sym) → Bottom (X ∷ S) → Kept (next X p f) S
keep (fixed x) p f S b = keep_fixed (fits x f) S b
keep (make g) p f S b = tt
keep want_name p f S b = keep_name p f S b
keep neg p f S b = keep_neg p f S b
keep un p f S b = keep_un p f S b
keep tail_post p f S b = keep_post p f S b
keep tail_prod p f S b = keep_prod p f S b
keep tail_sum p f S b = keep_sum p f S b
keep tail_cmp p f S b = keep_link (vlinks [] ∷ []) p f S b
keep (is_tail q) p f S b = keep_is q p f S b
keep links p f S b = keep_link [] p f S b
keep tail_and p f S b = keep_and p f S b
keep tail_or p f S b = keep_or p f S b
keep (in_bracket q) p f S b = keep_in_bracket q p f S b
keep (bracket_tail q) p f S b = keep_bracket q f S b
keep (elements q) p f S b = keep_elements q p f S b
keep (elements_tail q) p f S b = keep_element q f S b
keep args p f S b = keep_args p f S b
keep arg_tail p f S b = keep_arg_tail f S b
keep args_tail p f S b = keep_args_tail f S b
keep ty_atom p f S b = keep_ty_atom p f S b
keep ty_tail p f S b = keep_ty_tail f S b
keep simple p f S b = keep_simple p f S b
keep (return_tail q) p f S b = keep_return q p f S b
keep (simple_tail q) p f S b = keep_simple_tail q p f S b
keep stmt p f S b = keep_stmt p f S b
keep block p f S b = keep_block p f S b
keep stmts p f S b = keep_stmts p f S b
keep elifs p f S b = keep_elifs p f S b
keep else_part p f S b = keep_else f S b
keep finally_part p f S b = keep_finally f S b
keep (try_tail q) p f S b = keep_try q f S b
keep handlers p f S b = keep_handlers f S b
keep params p f S b = keep_params p f S b
keep param_tail p f S b = keep_param_tail f S b
keep params_tail p f S b = keep_params_tail f S b
keep decorators p f S b = keep_decorators f S b
keep members p f S b = keep_members f S b
keep class_body p f S b = keep_class_body f S b
keep doc p f S b = keep_doc f S b
keep base p f S b = keep_base f S b
keep in_base p f S b = keep_in_base p f S b
keep base_tail p f S b = keep_base_tail f S b
keep any_name p f S b = keep_any_name f S b
keep dots p f S b = keep_dots f S b
keep commas p f S b = keep_commas f S b
keep imported p f S b = keep_imported f S b
keep imports p f S b = keep_imports f S b
keep items p f S b = keep_items p f S b

-- the same, of what stands below a symbol that is done
below : (X : Sym) (S : List Sym) → Bottom (X ∷ S) → Bottom S
below items S b = bottom_of S b
below X S b = b

same_stack : (ys : List Sym) (vs : List Value) (S : List Sym) (V : List Value) (c : List Sym × List Value) → ◌≡◌ {A = Option (List Sym × List Value)} (Some (ys ++ S, vs ++ V)) (Some c) → c.0 ≡ ys ++ S
same_stack ys vs S V c e = grind (arith, e)

stopped : (c : List Sym × List Value) → ◌≡◌ {A = Option (List Sym × List Value)} None (Some c) → ⊥
stopped c e = cc

keep_by : (m : Move) (X : Sym) (S : List Sym) (V : List Value) (k : Token) (c : List Sym × List Value) → Kept m S → (step S (made X V) k ≡ Some c → Bottom c.0) → then_do m (λ ys vs. Some (ys ++ S, vs ++ V)) (step S (made X V) k) ≡ Some c → Bottom c.0
keep_by (take ys vs) X S V k c b ih e = subst (λ (T : List Sym). Bottom T) (sym (same_stack ys vs S V c e)) b
keep_by skip X S V k c b ih e = ih e
keep_by stop X S V k c b ih e = absurd (stopped c e)

keep_step : (S : List Sym) (V : List Value) (k : Token) (c : List Sym × List Value) → Bottom S → step S V k ≡ Some c → Bottom c.0
keep_step [] V k c b e = absurd (stopped c e)
keep_step (X ∷ S) V k c b e = keep_by (next X k.place k.form) X S V k c (keep X k.place k.form S b) (λ h. keep_step S (made X V) k c (below X S b) h) e

-- Nothing more is wanted.
abbrev OnlyMakes : List Sym → Type 0
OnlyMakes [] = Unit {0}
OnlyMakes (make g ∷ S) = OnlyMakes S
OnlyMakes (X ∷ S) = ⊥

abbrev AtEnd : Move → List Sym → Type 0
AtEnd (take ys vs) S = OnlyMakes (ys ++ S)
AtEnd m S = Unit {0}

fixed_end : (x : Fixed) (S : List Sym) → AtEnd (if fits x forms.End then take [] [] else stop) S
fixed_end newline S = tt
fixed_end indent S = tt
fixed_end colon S = tt
fixed_end assign S = tt
fixed_end arrow S = tt
fixed_end open_paren S = tt
fixed_end close_paren S = tt
fixed_end close_bracket S = tt
fixed_end word_def S = tt
fixed_end word_import S = tt

none_below : (S : List Sym) → S ≡ [] → OnlyMakes S
none_below S e = subst (λ (T : List Sym). OnlyMakes T) (sym e) tt

-- the end of a text is taken at items alone
end_row : (X : Sym) (p : Place) (S : List Sym) → Bottom (X ∷ S) → AtEnd (next X p forms.End) S
end_row (fixed x) p S b = fixed_end x S
end_row items p S b = none_below S b
end_row X p S b = tt

end_by : (m : Move) (X : Sym) (S : List Sym) (V : List Value) (k : Token) (c : List Sym × List Value) → AtEnd m S → (step S (made X V) k ≡ Some c → OnlyMakes c.0) → then_do m (λ ys vs. Some (ys ++ S, vs ++ V)) (step S (made X V) k) ≡ Some c → OnlyMakes c.0
end_by (take ys vs) X S V k c b ih e = subst (λ (T : List Sym). OnlyMakes T) (sym (same_stack ys vs S V c e)) b
end_by skip X S V k c b ih e = ih e
end_by stop X S V k c b ih e = absurd (stopped c e)

end_step : (S : List Sym) (V : List Value) (p q : Place) (c : List Sym × List Value) → Bottom S → step S V (tok p q forms.End) ≡ Some c → OnlyMakes c.0
end_step [] V p q c b e = absurd (stopped c e)
end_step (X ∷ S) V p q c b e = end_by (next X p forms.End) X S V (tok p q forms.End) c (end_row X p S b) (λ h. end_step S (made X V) p q c (below X S b) h) e

done_short : (V : List Value) → done V ≡ short → ⊥
done_short V h = cc

bad_short : (p : Place) → bad p ≡ short → ⊥
bad_short p h = cc

makes_settle : (S : List Sym) (V : List Value) → OnlyMakes S → settle S V ≡ short → ⊥
makes_settle [] V b h = done_short V h
makes_settle (make g ∷ S) V b h = makes_settle S (g V) b h
makes_settle (X ∷ S) V b h = absurd b

last_by : (o : Option (List Sym × List Value)) (k : Token) → ((c : List Sym × List Value) → o ≡ Some c → OnlyMakes c.0) → (elim o as (λ _. Out) [ None ↦ bad k.place | Some c ↦ run [] c.0 c.1 ]) ≡ short → ⊥
unfolding run
last_by None k g h = bad_short k.place h
last_by (Some c) k g h = makes_settle c.0 c.1 (g c refl) h

more_by : (o : Option (List Sym × List Value)) (k : Token) (ts : List Token) → ((c : List Sym × List Value) → o ≡ Some c → run ts c.0 c.1 ≡ short → ⊥) → (elim o as (λ _. Out) [ None ↦ bad k.place | Some c ↦ run ts c.0 c.1 ]) ≡ short → ⊥
more_by None k ts g h = bad_short k.place h
more_by (Some c) k ts g h = g c refl h

never_short : (ts : List Token) (p q : Place) (S : List Sym) (V : List Value) → Bottom S → run (ts ++ tok p q forms.End ∷ []) S V ≡ short → ⊥
unfolding run
never_short [] p q S V b h = last_by (step S V (tok p q forms.End)) (tok p q forms.End) (λ c e. end_step S V p q c b e) h
never_short (k ∷ ts) p q S V b h = more_by (step S V k) k (ts ++ tok p q forms.End ∷ []) (λ c e g. never_short ts p q c.0 c.1 (keep_step S V k c b e) g) h

by_form : (ts : List Token) (p q : Place) (f : TokenForm) → f ≡ forms.End → run_module (ts ++ tok p q f ∷ []) ≡ short → ⊥
by_form ts p q f e = subst (λ (g : TokenForm). run_module (ts ++ tok p q g ∷ []) ≡ short → ⊥) (sym e) (never_short ts p q (doc ∷ imports ∷ items ∷ []) (vitems [] ∷ []) refl)

-- a list that ends with the end of a text is never too short
pub ended : (ts : List Token) (k : Token) → k.form ≡ forms.End → run_module (ts ++ k ∷ []) ≡ short → ⊥
ended ts k e = by_form ts k.place k.«end» k.form e
