-- A step at a symbol of expressions, back from what completes the rest.
use Rattle.std.proofs.Common.{refl, List, [], ◌∷◌, ◌++◌}
use Rattle.py_base.specs.declared.Place.{Place}
use Rattle.py_tokens.specs.declared.Token.{Token}
use Rattle.py_tokens.specs.declared.TokenForm.{TokenForm}
use Rattle.py_tokens.specs.declared.TokenForm.TheVariants as forms
use Rattle.py_tokens.specs.declared.Keyword.TheVariants as keys
use Rattle.py_tokens.specs.declared.Mark.TheVariants as marks
use Rattle.raw_syntax.specs.declared.RawExpr.{RawExpr}
use Rattle.raw_syntax.specs.declared.Comparison.{Comparison}
use Rattle.raw_syntax.specs.declared.Comparison.TheVariants as compares
use Rattle.py_grammar.specs.ExprGrammar.{ReadsExpr, only_conj, or_of, ReadsConj, only_neg, and_of, not_of, only_cmp, only_sum, chain_of, no_link, link_more, ReadsSum, only_prod, plus_of, minus_of, ReadsProd, only_un, times_of, divide_of, floor_of, modulo_of, negate_of, only_post, only_atom, field_of, call_of, no_arg, arg_more, args_end, args_comma, arg_value, arg_named, ReadsAtom, number, true_word, false_word, none_word, name, string, unit, bracket, tuple, no_element, element_more, elements_end, elements_comma, ReadsComparison, less, less_equal, greater, greater_equal, equal, not_equal, is_same, is_not}
use Rattle.py_grammar.specs.Symbols.{vlinks, Sym, make, neg, un, tail_post, tail_prod, tail_sum, tail_cmp, is_tail, links, tail_and, tail_or, in_bracket, bracket_tail, elements, elements_tail, args, arg_tail, args_tail}
use Rattle.py_grammar.specs.Makers.{make_link, make_element}
use Rattle.py_grammar.specs.Moves.{next_un, next_neg, next_post, next_prod, next_sum, next_link, next_is, next_and, next_or, next_in_bracket, next_bracket, next_elements, next_element, next_args, next_arg_tail, next_args_tail, compare_with}
use Rattle.py_grammar.proofs.Follows.{un_never_skips, neg_never_skips}
use Rattle.py_grammar.proofs.Phrases.{Linked, Completes, tok, Row, row_via}

-- an expression, and then what the symbols want
abbrev pub ExprThen : List Sym → List Token → Type 0
ExprThen S ts = (r : List Token) × (e : RawExpr) × ReadsExpr e ts r × Completes S r

pub an_expr : (S : List Sym) {ts : List Token} → Completes (neg ∷ tail_and ∷ tail_or ∷ S) ts → ExprThen S ts
an_expr S {ts} (r1, (x, y), (r2, f, (r3, g, c))) = let a = f x ts (only_neg y) in let b = g a.0 ts (only_conj a.1) in (r3, b.0, b.1, c)

a_conj : (S : List Sym) {ts : List Token} → Completes (neg ∷ tail_and ∷ S) ts → (r : List Token) × (e : RawExpr) × ReadsConj e ts r × Completes S r
a_conj S {ts} (r1, (x, y), (r2, f, c)) = let a = f x ts (only_neg y) in (r2, a.0, a.1, c)

a_sum : (S : List Sym) {ts : List Token} → Completes (un ∷ tail_prod ∷ tail_sum ∷ S) ts → (r : List Token) × (e : RawExpr) × ReadsSum e ts r × Completes S r
a_sum S {ts} (r1, (x, y), (r2, f, (r3, g, c))) = let a = f x ts (only_un y) in let b = g a.0 ts (only_prod a.1) in (r3, b.0, b.1, c)

a_prod : (S : List Sym) {ts : List Token} → Completes (un ∷ tail_prod ∷ S) ts → (r : List Token) × (e : RawExpr) × ReadsProd e ts r × Completes S r
a_prod S {ts} (r1, (x, y), (r2, f, c)) = let a = f x ts (only_un y) in (r2, a.0, a.1, c)

-- operands
atom_then : {a : RawExpr} {t w : List Token} (S : List Sym) → ReadsAtom a t w → Completes (tail_post ∷ S) w → Completes (un ∷ S) t
atom_then {a} {t} S x (r, f, c) = let y = f a t (only_atom x) in (r, (y.0, only_post y.1), c)

pub row_un : (p e : Place) (f : TokenForm) → Row un (tok p e f) (next_un p f)
row_un p e (forms.Name n) S w c = atom_then S (name (e, refl)) c
row_un p e (forms.Number n) S w c = atom_then S (number (e, refl)) c
row_un p e (forms.Str n) S w c = atom_then S (string (e, refl)) c
row_un p e (forms.Key keys.True) S w c = atom_then S (true_word (e, refl)) c
row_un p e (forms.Key keys.False) S w c = atom_then S (false_word (e, refl)) c
row_un p e (forms.Key keys.None) S w c = atom_then S (none_word (e, refl)) c
row_un p e (forms.Mark marks.OpenParen) S w (r, b, c) = let y = b (tok p e (forms.Mark marks.OpenParen) ∷ w) (e, refl) in atom_then S y.1 c
row_un p e (forms.Mark marks.Minus) S w (r, (x, y), c) = (r, (_, negate_of (e, refl) y), c)
row_un p e _ S w c = tt

a_neg : (S : List Sym) (ts : List Token) → Completes (un ∷ tail_prod ∷ tail_sum ∷ tail_cmp ∷ S) ts → Completes (neg ∷ S) ts
a_neg S ts c = let a = a_sum (tail_cmp ∷ S) c in let b = a.3.1 a.1 ts a.2 in (a.3.0, (b.0, only_cmp b.1), a.3.2)

pub row_neg : (p e : Place) (f : TokenForm) → Row neg (tok p e f) (next_neg p f)
row_neg p e (forms.Key keys.Not) S w (r, (x, y), c) = (r, (_, not_of (e, refl) y), c)
row_neg p e f S w c = row_via neg un (tail_prod ∷ tail_sum ∷ tail_cmp ∷ []) (tok p e f) (next_un p f) a_neg (un_never_skips p f) (row_un p e f) S w c

-- what may follow an operand
pub row_post : (p e : Place) (f : TokenForm) → Row tail_post (tok p e f) (next_post p f)
row_post p e (forms.Mark marks.Dot) S w (r, (q, n, h), (r2, g, c)) = (r2, (λ a t x. g _ t (field_of x (p, (e, refl)) h)), c)
row_post p e (forms.Mark marks.OpenParen) S w (r, (xs, y), (r2, g, c)) = (r2, (λ a t x. g _ t (call_of x (p, (e, refl)) y)), c)
row_post p e f S w c = (tok p e f ∷ w, (λ a t x. (a, x)), c)

pub row_prod : (p e : Place) (f : TokenForm) → Row tail_prod (tok p e f) (next_prod p f)
row_prod p e (forms.Mark marks.Star) S w (r, (b, y), (r2, g, c)) = (r2, (λ a t x. g _ t (times_of x (e, refl) y)), c)
row_prod p e (forms.Mark marks.Slash) S w (r, (b, y), (r2, g, c)) = (r2, (λ a t x. g _ t (divide_of x (e, refl) y)), c)
row_prod p e (forms.Mark marks.TwoSlashes) S w (r, (b, y), (r2, g, c)) = (r2, (λ a t x. g _ t (floor_of x (e, refl) y)), c)
row_prod p e (forms.Mark marks.Percent) S w (r, (b, y), (r2, g, c)) = (r2, (λ a t x. g _ t (modulo_of x (e, refl) y)), c)
row_prod p e f S w c = (tok p e f ∷ w, (λ a t x. (a, x)), c)

pub row_sum : (p e : Place) (f : TokenForm) → Row tail_sum (tok p e f) (next_sum p f)
row_sum p e (forms.Mark marks.Plus) S w c = let b = a_prod (tail_sum ∷ S) c in (b.3.0, (λ a t x. b.3.1 _ t (plus_of x (e, refl) b.2)), b.3.2)
row_sum p e (forms.Mark marks.Minus) S w c = let b = a_prod (tail_sum ∷ S) c in (b.3.0, (λ a t x. b.3.1 _ t (minus_of x (e, refl) b.2)), b.3.2)
row_sum p e f S w c = (tok p e f ∷ w, (λ a t x. (a, x)), c)

-- the operators of a chain
linked : {o : Comparison} {p : Place} {t a : List Token} (S : List Sym) → ReadsComparison o p t a → Completes (compare_with p o ++ S) a → (r : List Token) × Linked t r × Completes S r
linked {o} {p} {t} {a} S h c = let b = a_sum (links ∷ S) c in (b.3.0, (o, p, b.1, b.3.1.0, a, b.0, h, b.2, b.3.1.1), b.3.2)

chain_then : {t : List Token} (S : List Sym) → (r : List Token) × Linked t r × Completes S r → Completes (tail_cmp ∷ S) t
chain_then S (r, (o, p, f, ls, a, b, h, x, y), c) = (r, (λ z t u. (_, chain_of u h x y)), c)

links_then : {t : List Token} (S : List Sym) → (r : List Token) × Linked t r × Completes S r → Completes (links ∷ S) t
links_then S (r, (o, p, f, ls, a, b, h, x, y), c) = (r, (_, link_more h x y), c)

is_then : (p e : Place) {w : List Token} (S : List Sym) → Completes (is_tail p ∷ S) w → (r : List Token) × Linked (tok p e (forms.Key keys.Is) ∷ w) r × Completes S r
is_then p e {w} S (r, g, c) = (r, g (tok p e (forms.Key keys.Is) ∷ w) (e, refl), c)

pub row_cmp : (p e : Place) (f : TokenForm) → Row tail_cmp (tok p e f) (next_link (vlinks [] ∷ []) p f)
row_cmp p e (forms.Mark marks.Less) S w c = chain_then S (linked S (less (e, refl)) c)
row_cmp p e (forms.Mark marks.LessEqual) S w c = chain_then S (linked S (less_equal (e, refl)) c)
row_cmp p e (forms.Mark marks.Greater) S w c = chain_then S (linked S (greater (e, refl)) c)
row_cmp p e (forms.Mark marks.GreaterEqual) S w c = chain_then S (linked S (greater_equal (e, refl)) c)
row_cmp p e (forms.Mark marks.Equal) S w c = chain_then S (linked S (equal (e, refl)) c)
row_cmp p e (forms.Mark marks.NotEqual) S w c = chain_then S (linked S (not_equal (e, refl)) c)
row_cmp p e (forms.Key keys.Is) S w c = chain_then S (is_then p e S c)
row_cmp p e f S w c = (tok p e f ∷ w, (λ a t x. (a, only_sum x)), c)

pub row_links : (p e : Place) (f : TokenForm) → Row links (tok p e f) (next_link [] p f)
row_links p e (forms.Mark marks.Less) S w c = links_then S (linked S (less (e, refl)) c)
row_links p e (forms.Mark marks.LessEqual) S w c = links_then S (linked S (less_equal (e, refl)) c)
row_links p e (forms.Mark marks.Greater) S w c = links_then S (linked S (greater (e, refl)) c)
row_links p e (forms.Mark marks.GreaterEqual) S w c = links_then S (linked S (greater_equal (e, refl)) c)
row_links p e (forms.Mark marks.Equal) S w c = links_then S (linked S (equal (e, refl)) c)
row_links p e (forms.Mark marks.NotEqual) S w c = links_then S (linked S (not_equal (e, refl)) c)
row_links p e (forms.Key keys.Is) S w c = links_then S (is_then p e S c)
row_links p e f S w c = (tok p e f ∷ w, ([], no_link), c)

an_is : (q : Place) (S : List Sym) (ts : List Token) → Completes (un ∷ tail_prod ∷ tail_sum ∷ make (make_link q compares.Is) ∷ links ∷ S) ts → Completes (is_tail q ∷ S) ts
an_is q S ts c = let a = a_sum (links ∷ S) c in (a.3.0, (λ t h. (compares.Is, q, a.1, a.3.1.0, ts, a.0, is_same h, a.2, a.3.1.1)), a.3.2)

pub row_is : (q p e : Place) (f : TokenForm) → Row (is_tail q) (tok p e f) (next_is q p f)
row_is q p e (forms.Key keys.Not) S w c = let a = a_sum (links ∷ S) c in (a.3.0, (λ t h. (compares.IsNot, q, a.1, a.3.1.0, w, a.0, is_not h (p, (e, refl)), a.2, a.3.1.1)), a.3.2)
row_is q p e f S w c = row_via (is_tail q) un (tail_prod ∷ tail_sum ∷ make (make_link q compares.Is) ∷ links ∷ []) (tok p e f) (next_un p f) (an_is q) (un_never_skips p f) (row_un p e f) S w c

pub row_and : (p e : Place) (f : TokenForm) → Row tail_and (tok p e f) (next_and p f)
row_and p e (forms.Key keys.And) S w (r, (b, y), (r2, g, c)) = (r2, (λ a t x. g _ t (and_of x (e, refl) y)), c)
row_and p e f S w c = (tok p e f ∷ w, (λ a t x. (a, x)), c)

pub row_or : (p e : Place) (f : TokenForm) → Row tail_or (tok p e f) (next_or p f)
row_or p e (forms.Key keys.Or) S w c = let b = a_conj (tail_or ∷ S) c in (b.3.0, (λ a t x. b.3.1 _ t (or_of x (e, refl) b.2)), b.3.2)
row_or p e f S w c = (tok p e f ∷ w, (λ a t x. (a, x)), c)

-- brackets
a_bracket : (q : Place) (S : List Sym) (ts : List Token) → Completes (neg ∷ tail_and ∷ tail_or ∷ bracket_tail q ∷ S) ts → Completes (in_bracket q ∷ S) ts
a_bracket q S ts c = let a = an_expr (bracket_tail q ∷ S) c in (a.3.0, (λ t h. a.3.1 t ts a.1 h a.2), a.3.2)

pub row_in_bracket : (q p e : Place) (f : TokenForm) → Row (in_bracket q) (tok p e f) (next_in_bracket q p f)
row_in_bracket q p e (forms.Mark marks.CloseParen) S w c = (w, (λ t h. (_, unit h (p, (e, refl)))), c)
row_in_bracket q p e f S w c = row_via (in_bracket q) neg (tail_and ∷ tail_or ∷ bracket_tail q ∷ []) (tok p e f) (next_neg p f) (a_bracket q) (neg_never_skips p f) (row_neg p e f) S w c

pub row_bracket : (q p e : Place) (f : TokenForm) → Row (bracket_tail q) (tok p e f) (next_bracket q f)
row_bracket q p e (forms.Mark marks.CloseParen) S w c = (w, (λ t a x h y. (_, bracket h y (p, (e, refl)))), c)
row_bracket q p e (forms.Mark marks.Comma) S w (r, (es, z), c) = (r, (λ t a x h y. (_, tuple h y (p, (e, refl)) z)), c)
row_bracket q p e f S w c = tt

an_element : (q : Place) (S : List Sym) (ts : List Token) → Completes (neg ∷ tail_and ∷ tail_or ∷ make make_element ∷ elements_tail q ∷ S) ts → Completes (elements q ∷ S) ts
an_element q S ts c = let a = an_expr (elements_tail q ∷ S) c in (a.3.0, (_, element_more a.2 a.3.1.1), a.3.2)

pub row_elements : (q p e : Place) (f : TokenForm) → Row (elements q) (tok p e f) (next_elements q p f)
row_elements q p e (forms.Mark marks.CloseParen) S w c = (w, ([], no_element (p, (e, refl))), c)
row_elements q p e f S w c = row_via (elements q) neg (tail_and ∷ tail_or ∷ make make_element ∷ elements_tail q ∷ []) (tok p e f) (next_neg p f) (an_element q) (neg_never_skips p f) (row_neg p e f) S w c

pub row_element : (q p e : Place) (f : TokenForm) → Row (elements_tail q) (tok p e f) (next_element q f)
row_element q p e (forms.Mark marks.CloseParen) S w c = (w, ([], elements_end (p, (e, refl))), c)
row_element q p e (forms.Mark marks.Comma) S w (r, (es, z), c) = (r, (es, elements_comma (p, (e, refl)) z), c)
row_element q p e f S w c = tt

an_arg : (S : List Sym) (ts : List Token) → Completes (neg ∷ tail_and ∷ tail_or ∷ arg_tail ∷ args_tail ∷ S) ts → Completes (args ∷ S) ts
an_arg S ts c = let a = an_expr (arg_tail ∷ args_tail ∷ S) c in let x = a.3.1 a.1 ts a.2 in (a.3.2.0, (_, arg_more x.1 a.3.2.1.1), a.3.2.2)

pub row_args : (p e : Place) (f : TokenForm) → Row args (tok p e f) (next_args p f)
row_args p e (forms.Mark marks.CloseParen) S w c = (w, ([], no_arg (p, (e, refl))), c)
row_args p e f S w c = row_via args neg (tail_and ∷ tail_or ∷ arg_tail ∷ args_tail ∷ []) (tok p e f) (next_neg p f) an_arg (neg_never_skips p f) (row_neg p e f) S w c

pub row_arg_tail : (p e : Place) (f : TokenForm) → Row arg_tail (tok p e f) (next_arg_tail f)
row_arg_tail p e (forms.Mark marks.Assign) S w c = let a = an_expr S c in (a.0, (λ x t y. (_, arg_named y (p, (e, refl)) a.2)), a.3)
row_arg_tail p e f S w c = (tok p e f ∷ w, (λ x t y. (_, arg_value y)), c)

pub row_args_tail : (p e : Place) (f : TokenForm) → Row args_tail (tok p e f) (next_args_tail f)
row_args_tail p e (forms.Mark marks.CloseParen) S w c = (w, ([], args_end (p, (e, refl))), c)
row_args_tail p e (forms.Mark marks.Comma) S w (r, (xs, z), c) = (r, (xs, args_comma (p, (e, refl)) z), c)
row_args_tail p e f S w c = tt
