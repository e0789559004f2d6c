-- A step at a symbol of functions, classes and modules, back from what completes the rest.
use Rattle.std.proofs.Common.{ℕ, refl, List, [], ◌∷◌, ◌++◌, None}
use Rattle.py_base.specs.declared.Place.{Place}
use Rattle.py_tokens.specs.declared.Token.{Token}
use Rattle.py_tokens.specs.declared.TokenForm.{TokenForm}
use Rattle.py_tokens.specs.declared.TokenForm.TheVariants as forms
use Rattle.py_tokens.specs.declared.Keyword.TheVariants as keys
use Rattle.py_tokens.specs.declared.Mark.TheVariants as marks
use Rattle.raw_syntax.specs.declared.RawFunc.{RawFunc}
use Rattle.py_grammar.specs.TokenFronts.{Past}
use Rattle.py_grammar.specs.ModuleGrammar.{only_name, typed_name, no_param, param_more, params_end, params_comma, ReadsDecorators, no_decorator, decorator_more, ReadsFunc, def_of, no_doc, doc_line, members_end, pass_member, func_member, pass_body, member_lines, no_base, empty_base, base_name, base_of, class_with, no_dot, dot_more, no_comma, comma_more, all_names, some_names, no_import, import_more, no_item, class_item, func_item}
use Rattle.py_grammar.specs.Symbols.{Sym, make, params, param_tail, params_tail, decorators, members, class_body, doc, base, in_base, base_tail, any_name, dots, commas, imported, imports, items}
use Rattle.py_grammar.specs.Makers.{make_member, make_item}
use Rattle.py_grammar.specs.Moves.{func_with, next_params, next_param_tail, next_params_tail, next_decorators, next_members, next_class_body, next_doc, next_base, next_in_base, next_base_tail, next_any_name, next_dots, next_commas, next_imported, next_imports, next_items}
use Rattle.py_grammar.proofs.Phrases.{Completes, tok, Row}

-- functions
pub row_params : (p e : Place) (f : TokenForm) → Row params (tok p e f) (next_params p f)
row_params p e (forms.Mark marks.CloseParen) S w c = (w, ([], no_param (p, (e, refl))), c)
row_params p e (forms.Name n) S w (r, g, (r2, (xs, m), c)) = let y = g p n (tok p e (forms.Name n) ∷ w) (e, refl) in (r2, (_, param_more y.1 m), c)
row_params p e f S w c = tt

pub row_param_tail : (p e : Place) (f : TokenForm) → Row param_tail (tok p e f) (next_param_tail f)
row_param_tail p e (forms.Mark marks.Colon) S w (r, (q, n, a), (r2, g, c)) = let y = g q n w a in (r2, (λ o m t h. (_, typed_name h (p, (e, refl)) y.1)), c)
row_param_tail p e f S w c = (tok p e f ∷ w, (λ o m t h. (_, only_name h)), c)

pub row_params_tail : (p e : Place) (f : TokenForm) → Row params_tail (tok p e f) (next_params_tail f)
row_params_tail p e (forms.Mark marks.CloseParen) S w c = (w, ([], params_end (p, (e, refl))), c)
row_params_tail p e (forms.Mark marks.Comma) S w (r, (xs, m), c) = (r, (xs, params_comma (p, (e, refl)) m), c)
row_params_tail p e f S w c = tt

pub row_decorators : (p e : Place) (f : TokenForm) → Row decorators (tok p e f) (next_decorators f)
row_decorators p e (forms.Mark marks.At) S w (r, (q, n, h), (r2, k, (r3, (ns, y), c))) = (r3, (_, decorator_more (p, (e, refl)) (q, h) k y), c)
row_decorators p e f S w c = (tok p e f ∷ w, ([], no_decorator), c)

a_func : {ns : List (List ℕ)} {t a w : List Token} (zs S : List Sym) → ReadsDecorators ns t a → Past (forms.Key keys.Def) a w → Completes (func_with zs ++ S) w → (r : List Token) × (f : RawFunc) × ReadsFunc f t r × Completes (zs ++ S) r
a_func zs S ds d (r1, (p, n, h), (r2, o, (r3, (xs, x), (r4, a, (r5, (q, m, ty), (r6, g, (r7, k, (r8, (ss, b), c)))))))) = let y = g q m r4 ty in (r8, _, def_of ds d h o x a y.1 k b, c)

-- classes
member_from : {t : List Token} (S : List Sym) → (r : List Token) × (f : RawFunc) × ReadsFunc f t r × Completes (make make_member ∷ members ∷ S) r → Completes (members ∷ S) t
member_from S (r, f, x, (r2, (fs, m), c)) = (r2, (_, func_member x m), c)

pub row_members : (p e : Place) (f : TokenForm) → Row members (tok p e f) (next_members f)
row_members p e forms.Dedent S w c = (w, ([], members_end (p, (e, refl))), c)
row_members p e (forms.Key keys.Pass) S w (r, k, (r2, (fs, m), c)) = (r2, (fs, pass_member (p, (e, refl)) k m), c)
row_members p e (forms.Mark marks.At) S w (r, (q, n, h), (r2, k, (r3, (ns, y), (r4, d, c)))) = member_from S (a_func (make make_member ∷ members ∷ []) S (decorator_more (p, (e, refl)) (q, h) k y) d c)
row_members p e (forms.Key keys.Def) S w c = member_from S (a_func (make make_member ∷ members ∷ []) S no_decorator (p, (e, refl)) c)
row_members p e f S w c = tt

pub row_class_body : (p e : Place) (f : TokenForm) → Row class_body (tok p e f) (next_class_body f)
row_class_body p e (forms.Key keys.Pass) S w (r, k, c) = (r, ([], pass_body (p, (e, refl)) k), c)
row_class_body p e forms.Newline S w (r, i, (r2, d, (r3, (fs, m), c))) = (r3, (fs, member_lines (p, (e, refl)) i d m), c)
row_class_body p e f S w c = tt

pub row_doc : (p e : Place) (f : TokenForm) → Row doc (tok p e f) (next_doc f)
row_doc p e (forms.Str n) S w (r, k, c) = (r, doc_line (p, (e, refl)) k, c)
row_doc p e f S w c = (tok p e f ∷ w, no_doc, c)

pub row_base : (p e : Place) (f : TokenForm) → Row base (tok p e f) (next_base f)
row_base p e (forms.Mark marks.OpenParen) S w (r, g, c) = (r, g (tok p e (forms.Mark marks.OpenParen) ∷ w) (p, (e, refl)), c)
row_base p e f S w c = (tok p e f ∷ w, (None, no_base), c)

pub row_in_base : (p e : Place) (f : TokenForm) → Row in_base (tok p e f) (next_in_base p f)
row_in_base p e (forms.Mark marks.CloseParen) S w c = (w, (λ t h. (None, empty_base h (p, (e, refl)))), c)
row_in_base p e (forms.Name n) S w (r, g, c) = (r, (λ t h. g t (tok p e (forms.Name n) ∷ w) p n h (e, refl)), c)
row_in_base p e f S w c = tt

pub row_base_tail : (p e : Place) (f : TokenForm) → Row base_tail (tok p e f) (next_base_tail f)
row_base_tail p e (forms.Mark marks.CloseParen) S w c = (w, (λ t a q n h k. (_, base_name h k (p, (e, refl)))), c)
row_base_tail p e (forms.Mark marks.OpenBracket) S w (r, (o, m, y), (r2, i, (r3, j, c))) = (r3, (λ t a q n h k. (_, base_of h k (p, (e, refl)) y i j)), c)
row_base_tail p e f S w c = tt

-- imports
pub row_any_name : (p e : Place) (f : TokenForm) → Row any_name (tok p e f) (next_any_name f)
row_any_name p e (forms.Name n) S w c = (w, (n, (p, (e, refl))), c)
row_any_name p e f S w c = tt

pub row_dots : (p e : Place) (f : TokenForm) → Row dots (tok p e f) (next_dots f)
row_dots p e (forms.Mark marks.Dot) S w (r, y, (r2, z, c)) = (r2, dot_more (p, (e, refl)) y z, c)
row_dots p e f S w c = (tok p e f ∷ w, no_dot, c)

pub row_commas : (p e : Place) (f : TokenForm) → Row commas (tok p e f) (next_commas f)
row_commas p e (forms.Mark marks.Comma) S w (r, y, (r2, z, c)) = (r2, comma_more (p, (e, refl)) y z, c)
row_commas p e f S w c = (tok p e f ∷ w, no_comma, c)

pub row_imported : (p e : Place) (f : TokenForm) → Row imported (tok p e f) (next_imported f)
row_imported p e (forms.Mark marks.Star) S w c = (w, all_names (p, (e, refl)), c)
row_imported p e (forms.Name n) S w (r, z, c) = (r, some_names (n, (p, (e, refl))) z, c)
row_imported p e f S w c = tt

pub row_imports : (p e : Place) (f : TokenForm) → Row imports (tok p e f) (next_imports f)
row_imports p e (forms.Key keys.From) S w (r, y, (r2, ds, (r3, i, (r4, x, (r5, l, (r6, z, c)))))) = (r6, import_more (p, (e, refl)) y ds i x l z, c)
row_imports p e f S w c = (tok p e f ∷ w, no_import, c)

-- modules
item_from : {t : List Token} (S : List Sym) → (r : List Token) × (f : RawFunc) × ReadsFunc f t r × Completes (make make_item ∷ items ∷ S) r → Completes (items ∷ S) t
item_from S (r, f, x, (r2, (xs, p, a, m, h), c)) = (r2, (_, p, a, func_item x m, h), c)

pub row_items : (p e : Place) (f : TokenForm) → Row items (tok p e f) (next_items p f)
row_items p e forms.End S w c = (w, ([], p, (tok p e forms.End ∷ w), no_item, (e, refl)), c)
row_items p e (forms.Key keys.Class) S w (r, (q, n, h), (r2, (b, y), (r3, k, (r4, (fs, z), (r5, (xs, o, a, x, i), c))))) = (r5, (_, o, a, class_item (class_with (p, (e, refl)) h y k z) x, i), c)
row_items p e (forms.Mark marks.At) S w (r, (q, n, h), (r2, k, (r3, (ns, y), (r4, d, c)))) = item_from S (a_func (make make_item ∷ items ∷ []) S (decorator_more (p, (e, refl)) (q, h) k y) d c)
row_items p e (forms.Key keys.Def) S w c = item_from S (a_func (make make_item ∷ items ∷ []) S no_decorator (p, (e, refl)) c)
row_items p e f S w c = tt
