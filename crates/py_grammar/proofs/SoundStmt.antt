-- A step at a symbol of types and statements, back from what completes the rest.
use Rattle.std.proofs.Common.{Bool, true, false, ◌≡◌, refl, List, [], ◌∷◌, ap, if◌then◌else◌}
use Rattle.py_base.specs.declared.Place.{Place}
use Rattle.py_tokens.specs.declared.Token.{Token}
use Rattle.py_tokens.specs.declared.TokenForm.{TokenForm}
use Rattle.py_tokens.specs.declared.TokenForm.TheVariants as forms
use Rattle.py_tokens.specs.declared.Keyword.TheVariants as keys
use Rattle.py_tokens.specs.declared.Mark.TheVariants as marks
use Rattle.py_grammar.specs.TokenFronts.{Has}
use Rattle.py_grammar.specs.StmtGrammar.{type_name, type_string, type_none, only_head, head_of, plus_assign, minus_assign, times_assign, floor_assign, modulo_assign, pass, break, continue, return, raise, return_value, assert, eval, declare, assign as assign_to, augment, simple as simple_line, if_of, while_of, try_of, finally_of, with_of, one_line, lines, stmts_end, stmt_more, no_elif, elif_more, no_else, else_of, no_finally, finally_block, except_of, no_handler, handler_more}
use Rattle.py_grammar.specs.Symbols.{Fixed, newline, indent, colon, assign, arrow, open_paren, close_paren, close_bracket, word_def, word_import, form_of, fits, Sym, fixed, make, want_name, neg, tail_and, tail_or, ty_atom, ty_tail, simple, return_tail, simple_tail, stmt, block, stmts, elifs, else_part, finally_part, try_tail, handlers, take, skip, stop}
use Rattle.py_grammar.specs.Makers.{make_only, make_next, make_value_return}
use Rattle.py_grammar.specs.Moves.{starts_expr, next_name, next_neg, next_expr, next_ty_atom, next_ty_tail, next_simple, next_return, next_simple_tail, next_stmt, next_block, next_stmts, next_elifs, next_else, next_finally, next_try, next_handlers}
use Rattle.py_grammar.proofs.Follows.{neg_never_skips, impossible}
use Rattle.py_grammar.proofs.StmtStarts.{simple_never_skips, stmt_never_skips}
use Rattle.py_grammar.proofs.Phrases.{Completes, tok, Row, row_at, row_via}
use Rattle.py_grammar.proofs.SoundExpr.{ExprThen, an_expr, row_neg}

-- tokens
fits_is : (x : Fixed) (f : TokenForm) → fits x f ≡ true → f ≡ form_of x
fits_is newline forms.Newline h = refl
fits_is indent forms.Indent h = refl
fits_is colon (forms.Mark marks.Colon) h = refl
fits_is assign (forms.Mark marks.Assign) h = refl
fits_is arrow (forms.Mark marks.Arrow) h = refl
fits_is open_paren (forms.Mark marks.OpenParen) h = refl
fits_is close_paren (forms.Mark marks.CloseParen) h = refl
fits_is close_bracket (forms.Mark marks.CloseBracket) h = refl
fits_is word_def (forms.Key keys.Def) h = refl
fits_is word_import (forms.Key keys.Import) h = refl
fits_is x f h = absurd (impossible h)

fixed_by : (x : Fixed) (p e : Place) (f : TokenForm) (b : Bool) → fits x f ≡ b → Row (fixed x) (tok p e f) (if b then take [] [] else stop)
fixed_by x p e f true h S w c = (w, (p, (e, ap (λ (g : TokenForm). tok p e g ∷ w) (fits_is x f h))), c)
fixed_by x p e f false h S w c = tt

pub row_fixed : (x : Fixed) (p e : Place) (f : TokenForm) → Row (fixed x) (tok p e f) (if fits x f then take [] [] else stop)
row_fixed x p e f = fixed_by x p e f (fits x f) refl

pub row_name : (p e : Place) (f : TokenForm) → Row want_name (tok p e f) (next_name p f)
row_name p e (forms.Name n) S w c = (w, (p, n, (e, refl)), c)
row_name p e f S w c = tt

-- types
pub row_ty_atom : (p e : Place) (f : TokenForm) → Row ty_atom (tok p e f) (next_ty_atom p f)
row_ty_atom p e (forms.Name n) S w c = (w, (p, n, type_name (e, refl)), c)
row_ty_atom p e (forms.Str n) S w c = (w, (p, n, type_string (e, refl)), c)
row_ty_atom p e (forms.Key keys.None) S w c = (w, (p, _, type_none (e, refl)), c)
row_ty_atom p e f S w c = tt

pub row_ty_tail : (p e : Place) (f : TokenForm) → Row ty_tail (tok p e f) (next_ty_tail f)
row_ty_tail p e (forms.Mark marks.OpenBracket) S w (r, (q, m, a), (r2, k, c)) = (r2, (λ o n t b. (_, head_of b (p, (e, refl)) a k)), c)
row_ty_tail p e f S w c = (tok p e f ∷ w, (λ o n t b. (_, only_head b)), c)

-- statements in a line
a_simple : (p e : Place) (f : TokenForm) (S : List Sym) (w : List Token) → Completes (neg ∷ tail_and ∷ tail_or ∷ simple_tail p ∷ S) (tok p e f ∷ w) → Completes (simple ∷ S) (tok p e f ∷ w)
a_simple p e f S w c = let a = an_expr (simple_tail p ∷ S) c in (a.3.0, a.3.1 a.1 (tok p e f ∷ w) (tok p e f, w, refl, refl) a.2, a.3.2)

pub row_simple : (p e : Place) (f : TokenForm) → Row simple (tok p e f) (next_simple p f)
row_simple p e (forms.Key keys.Pass) S w c = (w, (_, pass (e, refl)), c)
row_simple p e (forms.Key keys.Break) S w c = (w, (_, break (e, refl)), c)
row_simple p e (forms.Key keys.Continue) S w c = (w, (_, continue (e, refl)), c)
row_simple p e (forms.Key keys.Return) S w (r, g, c) = (r, g (tok p e (forms.Key keys.Return) ∷ w) (e, refl), c)
row_simple p e (forms.Key keys.Raise) S w (r, (q, n, h), (r2, o, (r3, k, c))) = (r3, (_, raise (e, refl) h o k), c)
row_simple p e (forms.Key keys.Assert) S w c = let a = an_expr S c in (a.0, (_, assert (e, refl) a.2), a.3)
row_simple p e f S w c = row_at simple neg (tail_and ∷ tail_or ∷ simple_tail p ∷ []) (tok p e f) (next_neg p f) (a_simple p e f) (neg_never_skips p f) (row_neg p e f) S w c

a_return : (q : Place) (S : List Sym) (ts : List Token) → Completes (neg ∷ tail_and ∷ tail_or ∷ make (make_value_return q) ∷ S) ts → Completes (return_tail q ∷ S) ts
a_return q S ts c = let a = an_expr S c in (a.0, (λ t h. (_, return_value h a.2)), a.3)

return_by : (q p e : Place) (f : TokenForm) (b : Bool) → Row (return_tail q) (tok p e f) (if b then next_expr p f (make (make_value_return q) ∷ []) else skip)
return_by q p e f true S w c = row_via (return_tail q) neg (tail_and ∷ tail_or ∷ make (make_value_return q) ∷ []) (tok p e f) (next_neg p f) (a_return q) (neg_never_skips p f) (row_neg p e f) S w c
return_by q p e f false S w c = (tok p e f ∷ w, (λ t h. (_, return h)), c)

pub row_return : (q p e : Place) (f : TokenForm) → Row (return_tail q) (tok p e f) (next_return q p f)
row_return q p e f = return_by q p e f (starts_expr f)

pub row_simple_tail : (q p e : Place) (f : TokenForm) → Row (simple_tail q) (tok p e f) (next_simple_tail q p f)
row_simple_tail q p e (forms.Mark marks.Colon) S w (r1, (o, n, a), (r2, g, (r3, k, c))) = let y = g o n w a in let x = an_expr S c in (x.0, (λ z t b u. (_, declare b u (p, (e, refl)) y.1 k x.2)), x.3)
row_simple_tail q p e (forms.Mark marks.Assign) S w c = let x = an_expr S c in (x.0, (λ z t b u. (_, assign_to b u (p, (e, refl)) x.2)), x.3)
row_simple_tail q p e (forms.Mark marks.PlusAssign) S w c = let x = an_expr S c in (x.0, (λ z t b u. (_, augment b u (plus_assign (e, refl)) x.2)), x.3)
row_simple_tail q p e (forms.Mark marks.MinusAssign) S w c = let x = an_expr S c in (x.0, (λ z t b u. (_, augment b u (minus_assign (e, refl)) x.2)), x.3)
row_simple_tail q p e (forms.Mark marks.StarAssign) S w c = let x = an_expr S c in (x.0, (λ z t b u. (_, augment b u (times_assign (e, refl)) x.2)), x.3)
row_simple_tail q p e (forms.Mark marks.TwoSlashesAssign) S w c = let x = an_expr S c in (x.0, (λ z t b u. (_, augment b u (floor_assign (e, refl)) x.2)), x.3)
row_simple_tail q p e (forms.Mark marks.PercentAssign) S w c = let x = an_expr S c in (x.0, (λ z t b u. (_, augment b u (modulo_assign (e, refl)) x.2)), x.3)
row_simple_tail q p e f S w c = (tok p e f ∷ w, (λ z t b u. (_, eval b u)), c)

-- statements with blocks
if_from : {p : Place} {t w : List Token} (S : List Sym) → Has p (forms.Key keys.If) t w → ExprThen (fixed colon ∷ block ∷ elifs ∷ else_part ∷ S) w → Completes (stmt ∷ S) t
if_from S h (r, e, x, (r1, k, (r2, (ss, b), (r3, (es, z), (r4, (os, o), c))))) = (r4, (_, if_of h x k b z o), c)

while_from : {p : Place} {t w : List Token} (S : List Sym) → Has p (forms.Key keys.While) t w → ExprThen (fixed colon ∷ block ∷ S) w → Completes (stmt ∷ S) t
while_from S h (r, e, x, (r1, k, (r2, (ss, b), c))) = (r2, (_, while_of h x k b), c)

with_from : {p : Place} {t w : List Token} (S : List Sym) → Has p (forms.Key keys.With) t w → ExprThen (fixed colon ∷ block ∷ S) w → Completes (stmt ∷ S) t
with_from S h (r, e, x, (r1, k, (r2, (ss, b), c))) = (r2, (_, with_of h x k b), c)

elif_from : {p : Place} {t w : List Token} (S : List Sym) → Has p (forms.Key keys.Elif) t w → ExprThen (fixed colon ∷ block ∷ elifs ∷ S) w → Completes (elifs ∷ S) t
elif_from S h (r, e, x, (r1, k, (r2, (ss, b), (r3, (es, z), c)))) = (r3, (_, elif_more h x k b z), c)

a_line : (S : List Sym) (ts : List Token) → Completes (simple ∷ fixed newline ∷ S) ts → Completes (stmt ∷ S) ts
a_line S ts (r, (s, x), (r2, n, c)) = (r2, (s, simple_line x n), c)

pub row_stmt : (p e : Place) (f : TokenForm) → Row stmt (tok p e f) (next_stmt p f)
row_stmt p e (forms.Key keys.If) S w c = if_from S (e, refl) (an_expr (fixed colon ∷ block ∷ elifs ∷ else_part ∷ S) c)
row_stmt p e (forms.Key keys.While) S w c = while_from S (e, refl) (an_expr (fixed colon ∷ block ∷ S) c)
row_stmt p e (forms.Key keys.With) S w c = with_from S (e, refl) (an_expr (fixed colon ∷ block ∷ S) c)
row_stmt p e (forms.Key keys.Try) S w (r, k, (r2, (ss, b), (r3, g, c))) = (r3, g (tok p e (forms.Key keys.Try) ∷ w) w r ss (e, refl) k b, c)
row_stmt p e f S w c = row_via stmt simple (fixed newline ∷ []) (tok p e f) (next_simple p f) a_line (simple_never_skips p f) (row_simple p e f) S w c

a_block : (S : List Sym) (ts : List Token) → Completes (simple ∷ fixed newline ∷ make make_only ∷ S) ts → Completes (block ∷ S) ts
a_block S ts (r, (s, x), (r2, n, c)) = (r2, (_, one_line x n), c)

pub row_block : (p e : Place) (f : TokenForm) → Row block (tok p e f) (next_block p f)
row_block p e forms.Newline S w (r, i, (r2, (s, x), (r3, (ss, y), c))) = (r3, (_, lines (p, (e, refl)) i x y), c)
row_block p e f S w c = row_via block simple (fixed newline ∷ make make_only ∷ []) (tok p e f) (next_simple p f) a_block (simple_never_skips p f) (row_simple p e f) S w c

some_stmts : (S : List Sym) (ts : List Token) → Completes (stmt ∷ make make_next ∷ stmts ∷ S) ts → Completes (stmts ∷ S) ts
some_stmts S ts (r, (s, x), (r2, (ss, y), c)) = (r2, (_, stmt_more x y), c)

pub row_stmts : (p e : Place) (f : TokenForm) → Row stmts (tok p e f) (next_stmts p f)
row_stmts p e forms.Dedent S w c = (w, ([], stmts_end (p, (e, refl))), c)
row_stmts p e f S w c = row_via stmts stmt (make make_next ∷ stmts ∷ []) (tok p e f) (next_stmt p f) some_stmts (stmt_never_skips p f) (row_stmt p e f) S w c

pub row_elifs : (p e : Place) (f : TokenForm) → Row elifs (tok p e f) (next_elifs p f)
row_elifs p e (forms.Key keys.Elif) S w c = elif_from S (e, refl) (an_expr (fixed colon ∷ block ∷ elifs ∷ S) c)
row_elifs p e f S w c = (tok p e f ∷ w, ([], no_elif), c)

pub row_else : (p e : Place) (f : TokenForm) → Row else_part (tok p e f) (next_else f)
row_else p e (forms.Key keys.Else) S w (r, k, (r2, (ss, b), c)) = (r2, (ss, else_of (p, (e, refl)) k b), c)
row_else p e f S w c = (tok p e f ∷ w, ([], no_else), c)

pub row_finally : (p e : Place) (f : TokenForm) → Row finally_part (tok p e f) (next_finally f)
row_finally p e (forms.Key keys.Finally) S w (r, k, (r2, (ss, b), c)) = (r2, (ss, finally_block (p, (e, refl)) k b), c)
row_finally p e f S w c = (tok p e f ∷ w, ([], no_finally), c)

pub row_try : (q p e : Place) (f : TokenForm) → Row (try_tail q) (tok p e f) (next_try q f)
row_try q p e (forms.Key keys.Except) S w (r, (o, n, h), (r2, k, (r3, (ss, b), (r4, (hs, y), (r5, (os, l), (r6, (fs, m), c)))))) = (r6, (λ t u v us i j z. (_, try_of i j z (except_of (p, (e, refl)) h k b) y l m)), c)
row_try q p e (forms.Key keys.Finally) S w (r, k, (r2, (fs, b), c)) = (r2, (λ t u v us i j z. (_, finally_of i j z (p, (e, refl)) k b)), c)
row_try q p e f S w c = tt

pub row_handlers : (p e : Place) (f : TokenForm) → Row handlers (tok p e f) (next_handlers f)
row_handlers p e (forms.Key keys.Except) S w (r, (o, n, h), (r2, k, (r3, (ss, b), (r4, (hs, y), c)))) = (r4, (_, handler_more (except_of (p, (e, refl)) h k b) y), c)
row_handlers p e f S w c = (tok p e f ∷ w, ([], no_handler), c)
