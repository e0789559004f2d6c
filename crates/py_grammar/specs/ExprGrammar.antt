-- Which tokens spell an expression: one relation for each line of the grammar and one case for each alternative. Each
-- says that the tokens begin with a spelling of the tree, and which are left.
use Rattle.std.specs.Prelude.{ℕ, ℤ, true, false, List, [], ◌∷◌}
use Rattle.py_base.specs.declared.Place.{Place}
use Rattle.py_tokens.specs.declared.Token.{Token}
use Rattle.py_tokens.specs.declared.TokenForm.TheVariants as forms
use Rattle.py_tokens.specs.declared.Keyword.TheVariants as keys
use Rattle.py_tokens.specs.declared.Mark.TheVariants as marks
use Rattle.raw_syntax.specs.declared.RawExpr.{RawExpr, roll-RawExpr, out-RawExpr}
use Rattle.raw_syntax.specs.declared.RawExprForm.{RawExprForm}
use Rattle.raw_syntax.specs.declared.RawExprForm.TheVariants as exprs
use Rattle.raw_syntax.specs.declared.RawComparison.{RawComparison, roll-RawComparison}
use Rattle.raw_syntax.specs.declared.RawArgument.{RawArgument}
use Rattle.raw_syntax.specs.declared.RawArgument.TheVariants as arguments
use Rattle.raw_syntax.specs.declared.Arithmetic.TheVariants as signs
use Rattle.raw_syntax.specs.declared.Comparison.{Comparison}
use Rattle.raw_syntax.specs.declared.Comparison.TheVariants as compares
use Rattle.py_grammar.specs.TokenFronts.{Has, Past}

-- The expression of this form at this place.
abbrev pub node : Place → RawExprForm → RawExpr
node p form = roll-RawExpr (record { place = p; form = form })

abbrev pub place_of : RawExpr → Place
place_of e = (out-RawExpr e).place

abbrev pub link : Place → Comparison → RawExpr → RawComparison
link p c e = roll-RawComparison (record { place = p; operator = c; operand = e })

-- cmpop = '<' | '<=' | '>' | '>=' | '==' | '!=' | 'is' ['not']
pub data ReadsComparison : Comparison → Place → List Token → List Token → Type 0 where
  less : {p : Place} {ts rest : List Token} → Has p (forms.Mark marks.Less) ts rest → ReadsComparison compares.Less p ts rest
  less_equal : {p : Place} {ts rest : List Token} → Has p (forms.Mark marks.LessEqual) ts rest → ReadsComparison compares.LessEqual p ts rest
  greater : {p : Place} {ts rest : List Token} → Has p (forms.Mark marks.Greater) ts rest → ReadsComparison compares.Greater p ts rest
  greater_equal : {p : Place} {ts rest : List Token} → Has p (forms.Mark marks.GreaterEqual) ts rest → ReadsComparison compares.GreaterEqual p ts rest
  equal : {p : Place} {ts rest : List Token} → Has p (forms.Mark marks.Equal) ts rest → ReadsComparison compares.Equal p ts rest
  not_equal : {p : Place} {ts rest : List Token} → Has p (forms.Mark marks.NotEqual) ts rest → ReadsComparison compares.NotEqual p ts rest
  is_same : {p : Place} {ts rest : List Token} → Has p (forms.Key keys.Is) ts rest → ReadsComparison compares.Is p ts rest
  is_not : {p : Place} {ts a rest : List Token} → Has p (forms.Key keys.Is) ts a → Past (forms.Key keys.Not) a rest → ReadsComparison compares.IsNot p ts rest

mutual
  -- expr = conj {'or' conj}
  pub data ReadsExpr : RawExpr → List Token → List Token → Type 0 where
    only_conj : {e : RawExpr} {ts rest : List Token} → ReadsConj e ts rest → ReadsExpr e ts rest
    or_of : {e f : RawExpr} {p : Place} {ts a b rest : List Token} → ReadsExpr e ts a → Has p (forms.Key keys.Or) a b → ReadsConj f b rest → ReadsExpr (node p (exprs.Or e f)) ts rest

  -- conj = neg {'and' neg}
  pub data ReadsConj : RawExpr → List Token → List Token → Type 0 where
    only_neg : {e : RawExpr} {ts rest : List Token} → ReadsNeg e ts rest → ReadsConj e ts rest
    and_of : {e f : RawExpr} {p : Place} {ts a b rest : List Token} → ReadsConj e ts a → Has p (forms.Key keys.And) a b → ReadsNeg f b rest → ReadsConj (node p (exprs.And e f)) ts rest

  -- neg = 'not' neg | cmp
  pub data ReadsNeg : RawExpr → List Token → List Token → Type 0 where
    not_of : {e : RawExpr} {p : Place} {ts a rest : List Token} → Has p (forms.Key keys.Not) ts a → ReadsNeg e a rest → ReadsNeg (node p (exprs.Not e)) ts rest
    only_cmp : {e : RawExpr} {ts rest : List Token} → ReadsCmp e ts rest → ReadsNeg e ts rest

  -- cmp = sum {cmpop sum}
  pub data ReadsCmp : RawExpr → List Token → List Token → Type 0 where
    only_sum : {e : RawExpr} {ts rest : List Token} → ReadsSum e ts rest → ReadsCmp e ts rest
    chain_of : {e f : RawExpr} {c : Comparison} {p : Place} {links : List RawComparison} {ts a b d rest : List Token} → ReadsSum e ts a → ReadsComparison c p a b → ReadsSum f b d → ReadsLinks links d rest → ReadsCmp (node p (exprs.Chain e (link p c f ∷ links))) ts rest

  pub data ReadsLinks : List RawComparison → List Token → List Token → Type 0 where
    no_link : {ts : List Token} → ReadsLinks [] ts ts
    link_more : {f : RawExpr} {c : Comparison} {p : Place} {links : List RawComparison} {ts a b rest : List Token} → ReadsComparison c p ts a → ReadsSum f a b → ReadsLinks links b rest → ReadsLinks (link p c f ∷ links) ts rest

  -- sum = prod {('+' | '-') prod}
  pub data ReadsSum : RawExpr → List Token → List Token → Type 0 where
    only_prod : {e : RawExpr} {ts rest : List Token} → ReadsProd e ts rest → ReadsSum e ts rest
    plus_of : {e f : RawExpr} {p : Place} {ts a b rest : List Token} → ReadsSum e ts a → Has p (forms.Mark marks.Plus) a b → ReadsProd f b rest → ReadsSum (node p (exprs.Binary signs.Plus e f)) ts rest
    minus_of : {e f : RawExpr} {p : Place} {ts a b rest : List Token} → ReadsSum e ts a → Has p (forms.Mark marks.Minus) a b → ReadsProd f b rest → ReadsSum (node p (exprs.Binary signs.Minus e f)) ts rest

  -- prod = un {('*' | '/' | '//' | '%') un}
  pub data ReadsProd : RawExpr → List Token → List Token → Type 0 where
    only_un : {e : RawExpr} {ts rest : List Token} → ReadsUn e ts rest → ReadsProd e ts rest
    times_of : {e f : RawExpr} {p : Place} {ts a b rest : List Token} → ReadsProd e ts a → Has p (forms.Mark marks.Star) a b → ReadsUn f b rest → ReadsProd (node p (exprs.Binary signs.Times e f)) ts rest
    divide_of : {e f : RawExpr} {p : Place} {ts a b rest : List Token} → ReadsProd e ts a → Has p (forms.Mark marks.Slash) a b → ReadsUn f b rest → ReadsProd (node p (exprs.Binary signs.Divide e f)) ts rest
    floor_of : {e f : RawExpr} {p : Place} {ts a b rest : List Token} → ReadsProd e ts a → Has p (forms.Mark marks.TwoSlashes) a b → ReadsUn f b rest → ReadsProd (node p (exprs.Binary signs.FloorDivide e f)) ts rest
    modulo_of : {e f : RawExpr} {p : Place} {ts a b rest : List Token} → ReadsProd e ts a → Has p (forms.Mark marks.Percent) a b → ReadsUn f b rest → ReadsProd (node p (exprs.Binary signs.Modulo e f)) ts rest

  -- un = '-' un | post
  pub data ReadsUn : RawExpr → List Token → List Token → Type 0 where
    negate_of : {e : RawExpr} {p : Place} {ts a rest : List Token} → Has p (forms.Mark marks.Minus) ts a → ReadsUn e a rest → ReadsUn (node p (exprs.Negate e)) ts rest
    only_post : {e : RawExpr} {ts rest : List Token} → ReadsPost e ts rest → ReadsUn e ts rest

  -- post = atom {'.' NAME | '(' [arg {',' arg} [',']] ')'}
  pub data ReadsPost : RawExpr → List Token → List Token → Type 0 where
    only_atom : {e : RawExpr} {ts rest : List Token} → ReadsAtom e ts rest → ReadsPost e ts rest
    field_of : {e : RawExpr} {n : List ℕ} {p : Place} {ts a b rest : List Token} → ReadsPost e ts a → Past (forms.Mark marks.Dot) a b → Has p (forms.Name n) b rest → ReadsPost (node p (exprs.Field e n)) ts rest
    call_of : {e : RawExpr} {args : List RawArgument} {ts a b rest : List Token} → ReadsPost e ts a → Past (forms.Mark marks.OpenParen) a b → ReadsArgs args b rest → ReadsPost (node (place_of e) (exprs.Call e args)) ts rest

  -- the arguments behind an open bracket or a comma, up to and with the closing one
  pub data ReadsArgs : List RawArgument → List Token → List Token → Type 0 where
    no_arg : {ts rest : List Token} → Past (forms.Mark marks.CloseParen) ts rest → ReadsArgs [] ts rest
    arg_more : {x : RawArgument} {xs : List RawArgument} {ts a rest : List Token} → ReadsArg x ts a → ReadsMoreArgs xs a rest → ReadsArgs (x ∷ xs) ts rest

  pub data ReadsMoreArgs : List RawArgument → List Token → List Token → Type 0 where
    args_end : {ts rest : List Token} → Past (forms.Mark marks.CloseParen) ts rest → ReadsMoreArgs [] ts rest
    args_comma : {xs : List RawArgument} {ts a rest : List Token} → Past (forms.Mark marks.Comma) ts a → ReadsArgs xs a rest → ReadsMoreArgs xs ts rest

  -- arg = expr ['=' expr]
  pub data ReadsArg : RawArgument → List Token → List Token → Type 0 where
    arg_value : {e : RawExpr} {ts rest : List Token} → ReadsExpr e ts rest → ReadsArg (arguments.Value e) ts rest
    arg_named : {e f : RawExpr} {ts a b rest : List Token} → ReadsExpr e ts a → Past (forms.Mark marks.Assign) a b → ReadsExpr f b rest → ReadsArg (arguments.Named e f) ts rest

  -- atom = NUMBER | 'True' | 'False' | 'None' | NAME | STRING | '(' ')' | '(' expr [',' [expr {',' expr} [',']]] ')'
  pub data ReadsAtom : RawExpr → List Token → List Token → Type 0 where
    number : {n : ℤ} {p : Place} {ts rest : List Token} → Has p (forms.Number n) ts rest → ReadsAtom (node p (exprs.Number n)) ts rest
    true_word : {p : Place} {ts rest : List Token} → Has p (forms.Key keys.True) ts rest → ReadsAtom (node p (exprs.Truth true)) ts rest
    false_word : {p : Place} {ts rest : List Token} → Has p (forms.Key keys.False) ts rest → ReadsAtom (node p (exprs.Truth false)) ts rest
    none_word : {p : Place} {ts rest : List Token} → Has p (forms.Key keys.None) ts rest → ReadsAtom (node p exprs.Nil) ts rest
    name : {n : List ℕ} {p : Place} {ts rest : List Token} → Has p (forms.Name n) ts rest → ReadsAtom (node p (exprs.Name n)) ts rest
    string : {n : List ℕ} {p : Place} {ts rest : List Token} → Has p (forms.Str n) ts rest → ReadsAtom (node p (exprs.Str n)) ts rest
    unit : {p : Place} {ts a rest : List Token} → Has p (forms.Mark marks.OpenParen) ts a → Past (forms.Mark marks.CloseParen) a rest → ReadsAtom (node p (exprs.Tuple [])) ts rest
    bracket : {e : RawExpr} {p : Place} {ts a b rest : List Token} → Has p (forms.Mark marks.OpenParen) ts a → ReadsExpr e a b → Past (forms.Mark marks.CloseParen) b rest → ReadsAtom (node p (exprs.Bracket e)) ts rest
    tuple : {e : RawExpr} {es : List RawExpr} {p : Place} {ts a b c rest : List Token} → Has p (forms.Mark marks.OpenParen) ts a → ReadsExpr e a b → Past (forms.Mark marks.Comma) b c → ReadsElements es c rest → ReadsAtom (node p (exprs.Tuple (e ∷ es))) ts rest

  -- the elements of a tuple behind a comma, up to and with the closing bracket
  pub data ReadsElements : List RawExpr → List Token → List Token → Type 0 where
    no_element : {ts rest : List Token} → Past (forms.Mark marks.CloseParen) ts rest → ReadsElements [] ts rest
    element_more : {e : RawExpr} {es : List RawExpr} {ts a rest : List Token} → ReadsExpr e ts a → ReadsMoreElements es a rest → ReadsElements (e ∷ es) ts rest

  pub data ReadsMoreElements : List RawExpr → List Token → List Token → Type 0 where
    elements_end : {ts rest : List Token} → Past (forms.Mark marks.CloseParen) ts rest → ReadsMoreElements [] ts rest
    elements_comma : {es : List RawExpr} {ts a rest : List Token} → Past (forms.Mark marks.Comma) ts a → ReadsElements es a rest → ReadsMoreElements es ts rest
