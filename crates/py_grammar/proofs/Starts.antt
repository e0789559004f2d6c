-- The first token of an expression, and what the machine does where one begins.
use Rattle.std.proofs.Common.{true, ◌≡◌, ◌≤◌, arith, refl, List, [], ◌∷◌, ◌++◌}
use Rattle.py_base.specs.declared.Place.{Place}
use Rattle.py_tokens.specs.declared.Token.{Token}
use Rattle.py_tokens.specs.declared.TokenForm.{TokenForm}
use Rattle.py_tokens.specs.declared.TokenForm.TheVariants as forms
use Rattle.py_tokens.specs.declared.Keyword.TheVariants as keys
use Rattle.raw_syntax.specs.declared.RawExpr.{RawExpr}
use Rattle.raw_syntax.specs.declared.RawArgument.{RawArgument}
use Rattle.raw_syntax.specs.declared.RawComparison.{RawComparison}
use Rattle.raw_syntax.specs.declared.Comparison.{Comparison}
use Rattle.raw_syntax.specs.declared.Comparison.TheVariants as compares
use Rattle.py_grammar.specs.TokenFronts.{Has}
use Rattle.py_grammar.specs.ExprGrammar.{ReadsExpr, only_conj, or_of, ReadsConj, only_neg, and_of, ReadsNeg, not_of, only_cmp, ReadsCmp, only_sum, chain_of, ReadsLinks, no_link, link_more, ReadsSum, only_prod, plus_of, minus_of, ReadsProd, only_un, times_of, divide_of, floor_of, modulo_of, ReadsUn, negate_of, only_post, ReadsPost, only_atom, field_of, call_of, ReadsArg, arg_value, arg_named, ReadsMoreArgs, args_end, args_comma, ReadsMoreElements, elements_end, elements_comma, ReadsAtom, number, true_word, false_word, none_word, name, string, unit, bracket, tuple, ReadsComparison, less, less_equal, greater, greater_equal, equal, not_equal, is_same, is_not}
use Rattle.py_grammar.specs.Symbols.{Value, Sym, make, un, neg, tail_prod, tail_sum, tail_cmp, tail_and, tail_or, is_tail, links, bracket_tail, elements_tail, arg_tail, args_tail, in_bracket, elements, args, skip}
use Rattle.py_grammar.specs.Makers.{make_link, make_element}
use Rattle.py_grammar.specs.Moves.{next, starts_expr, next_link, next_arg_tail}
use Rattle.py_grammar.proofs.Rows.{To, ◌⊳◌, took, expands}
use Rattle.py_grammar.proofs.Follows.{Stops, stops, weaker, strength, starts_un, StartsUn, StartsExpr, un_never_skips, neg_never_skips, neg_opens, is_opens, bracket_opens, elements_open, args_open}

un_at : {p : Place} {f : TokenForm} {ts r : List Token} → Has p f ts r → starts_un f ≡ true → StartsUn ts
un_at {p} {f} {ts} {r} h b = (p, f, r, h, b)

pub atom_starts : {e : RawExpr} {ts rest : List Token} → ReadsAtom e ts rest → StartsUn ts
atom_starts (number h) = un_at h refl
atom_starts (true_word h) = un_at h refl
atom_starts (false_word h) = un_at h refl
atom_starts (none_word h) = un_at h refl
atom_starts (name h) = un_at h refl
atom_starts (string h) = un_at h refl
atom_starts (unit h k) = un_at h refl
atom_starts (bracket h r k) = un_at h refl
atom_starts (tuple h r k es) = un_at h refl

pub post_starts : {e : RawExpr} {ts rest : List Token} → ReadsPost e ts rest → StartsUn ts
post_starts (only_atom r) = atom_starts r
post_starts (field_of r d n) = post_starts r
post_starts (call_of r d xs) = post_starts r

pub un_starts : {e : RawExpr} {ts rest : List Token} → ReadsUn e ts rest → StartsUn ts
un_starts (negate_of h r) = un_at h refl
un_starts (only_post r) = post_starts r

pub prod_starts : {e : RawExpr} {ts rest : List Token} → ReadsProd e ts rest → StartsUn ts
prod_starts (only_un r) = un_starts r
prod_starts (times_of r h t) = prod_starts r
prod_starts (divide_of r h t) = prod_starts r
prod_starts (floor_of r h t) = prod_starts r
prod_starts (modulo_of r h t) = prod_starts r

pub sum_starts : {e : RawExpr} {ts rest : List Token} → ReadsSum e ts rest → StartsUn ts
sum_starts (only_prod r) = prod_starts r
sum_starts (plus_of r h t) = sum_starts r
sum_starts (minus_of r h t) = sum_starts r

pub cmp_starts : {e : RawExpr} {ts rest : List Token} → ReadsCmp e ts rest → StartsUn ts
cmp_starts (only_sum r) = sum_starts r
cmp_starts (chain_of r o t ls) = sum_starts r

wider : (f : TokenForm) → starts_un f ≡ true → starts_expr f ≡ true
wider (forms.Key keys.Not) h = refl
wider f h = h

pub neg_starts : {e : RawExpr} {ts rest : List Token} → ReadsNeg e ts rest → StartsExpr ts
neg_starts (not_of {p = p} {a = a} h r) = (p, forms.Key keys.Not, a, h, refl)
neg_starts (only_cmp r) = let s = cmp_starts r in (s.0, s.1, s.2, s.3, wider s.1 s.4)

pub conj_starts : {e : RawExpr} {ts rest : List Token} → ReadsConj e ts rest → StartsExpr ts
conj_starts (only_neg r) = neg_starts r
conj_starts (and_of r h t) = conj_starts r

pub expr_starts : {e : RawExpr} {ts rest : List Token} → ReadsExpr e ts rest → StartsExpr ts
expr_starts (only_conj r) = conj_starts r
expr_starts (or_of r h t) = expr_starts r

pub arg_starts : {x : RawArgument} {ts rest : List Token} → ReadsArg x ts rest → StartsExpr ts
arg_starts (arg_value r) = expr_starts r
arg_starts (arg_named r h t) = expr_starts r

pub neg_as : {S : List Sym} {V : List Value} {ts : List Token} → StartsUn ts → To ts (neg ∷ S) V ts (un ∷ tail_prod ∷ tail_sum ∷ tail_cmp ∷ S) V
neg_as (p, f, r, h, b) = expands un (tail_prod ∷ tail_sum ∷ tail_cmp ∷ []) h (neg_opens p f b) (un_never_skips p f)

pub is_as : {S : List Sym} {V : List Value} {ts : List Token} (q : Place) → StartsUn ts → To ts (is_tail q ∷ S) V ts (un ∷ tail_prod ∷ tail_sum ∷ make (make_link q compares.Is) ∷ links ∷ S) V
is_as q (p, f, r, h, b) = expands un (tail_prod ∷ tail_sum ∷ make (make_link q compares.Is) ∷ links ∷ []) h (is_opens q p f b) (un_never_skips p f)

pub bracket_as : {S : List Sym} {V : List Value} {ts : List Token} (q : Place) → StartsExpr ts → To ts (in_bracket q ∷ S) V ts (neg ∷ tail_and ∷ tail_or ∷ bracket_tail q ∷ S) V
bracket_as q (p, f, r, h, b) = expands neg (tail_and ∷ tail_or ∷ bracket_tail q ∷ []) h (bracket_opens q p f b) (neg_never_skips p f)

pub elements_as : {S : List Sym} {V : List Value} {ts : List Token} (q : Place) → StartsExpr ts → To ts (elements q ∷ S) V ts (neg ∷ tail_and ∷ tail_or ∷ make make_element ∷ elements_tail q ∷ S) V
elements_as q (p, f, r, h, b) = expands neg (tail_and ∷ tail_or ∷ make make_element ∷ elements_tail q ∷ []) h (elements_open q p f b) (neg_never_skips p f)

pub args_as : {S : List Sym} {V : List Value} {ts : List Token} → StartsExpr ts → To ts (args ∷ S) V ts (neg ∷ tail_and ∷ tail_or ∷ arg_tail ∷ args_tail ∷ S) V
args_as (p, f, r, h, b) = expands neg (tail_and ∷ tail_or ∷ arg_tail ∷ args_tail ∷ []) h (args_open p f b) (neg_never_skips p f)

-- an operator of a chain
pub compared : {c : Comparison} {p : Place} {ts rest : List Token} {S : List Sym} {V : List Value} (X : Sym) (vs : List Value) → ((q : Place) (f : TokenForm) → next X q f ≡ next_link vs q f) → ReadsComparison c p ts rest → StartsUn rest → To ts (X ∷ S) V rest (un ∷ tail_prod ∷ tail_sum ∷ make (make_link p c) ∷ links ∷ S) (vs ++ V)
compared X vs n (less h) s = took h (n _ _)
compared X vs n (less_equal h) s = took h (n _ _)
compared X vs n (greater h) s = took h (n _ _)
compared X vs n (greater_equal h) s = took h (n _ _)
compared X vs n (equal h) s = took h (n _ _)
compared X vs n (not_equal h) s = took h (n _ _)
compared X vs n (is_same {p = p} h) s = took h (n _ _) ⊳ is_as p s
compared X vs n (is_not h (q, k)) s = took h (n _ _) ⊳ took k refl

pub comparison_stops : {c : Comparison} {p : Place} {ts rest : List Token} → ReadsComparison c p ts rest → Stops 3 ts
comparison_stops (less h) = stops h (omega arith)
comparison_stops (less_equal h) = stops h (omega arith)
comparison_stops (greater h) = stops h (omega arith)
comparison_stops (greater_equal h) = stops h (omega arith)
comparison_stops (equal h) = stops h (omega arith)
comparison_stops (not_equal h) = stops h (omega arith)
comparison_stops (is_same h) = stops h (omega arith)
comparison_stops (is_not h k) = stops h (omega arith)

pub links_stop : {ls : List RawComparison} {ts rest : List Token} → ReadsLinks ls ts rest → Stops 2 rest → Stops 3 ts
links_stop no_link s = weaker s (omega arith)
links_stop (link_more o t ls) s = comparison_stops o

-- The first token ends an argument or an element.
abbrev pub EndsPart : List Token → Type 0
EndsPart ts = (p : Place) × (f : TokenForm) × (r : List Token) × Has p f ts r × (strength f ≤ 0) × (next_arg_tail f ≡ skip)

pub part_stops : {ts : List Token} → EndsPart ts → Stops 0 ts
part_stops (p, f, r, h, l, n) = (p, f, r, h, l)

part_at : {p : Place} {f : TokenForm} {ts r : List Token} → Has p f ts r → strength f ≤ 0 → next_arg_tail f ≡ skip → EndsPart ts
part_at {p} {f} {ts} {r} h l n = (p, f, r, h, l, n)

pub more_args_end : {xs : List RawArgument} {ts rest : List Token} → ReadsMoreArgs xs ts rest → EndsPart ts
more_args_end (args_end (q, h)) = part_at h (omega arith) refl
more_args_end (args_comma (q, h) m) = part_at h (omega arith) refl

pub more_elements_stop : {es : List RawExpr} {ts rest : List Token} → ReadsMoreElements es ts rest → Stops 0 ts
more_elements_stop (elements_end (q, h)) = stops h (omega arith)
more_elements_stop (elements_comma (q, h) m) = stops h (omega arith)
