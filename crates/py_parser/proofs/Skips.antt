-- The symbols that no token passes by: with any token an operand, an expression and a statement go on or end the reading.
use Rattle.std.proofs.Common.{◌≡◌, refl, List, [], ◌∷◌}
use Rattle.py_base.specs.declared.Place.{Place}
use Rattle.py_tokens.specs.declared.TokenForm.{TokenForm}
use Rattle.py_tokens.specs.declared.TokenForm.TheVariants as forms
use Rattle.py_tokens.specs.declared.Keyword.TheVariants as keys
use Rattle.py_tokens.specs.declared.Mark.TheVariants as marks
use Rattle.py_grammar.specs.Symbols.{Sym, fixed, newline, tail_prod, tail_sum, tail_cmp, tail_and, tail_or, simple_tail, Move, take, skip, stop}
use Rattle.py_grammar.specs.Moves.{and_then, next_un, next_neg, next_simple, next_stmt}

un_never_skips : (p : Place) (f : TokenForm) → next_un p f ≡ skip → ⊥
un_never_skips p (forms.Name n) h = cc
un_never_skips p (forms.Number n) h = cc
un_never_skips p (forms.Str n) h = cc
un_never_skips p (forms.Key keys.True) h = cc
un_never_skips p (forms.Key keys.False) h = cc
un_never_skips p (forms.Key keys.None) h = cc
un_never_skips p (forms.Mark marks.OpenParen) h = cc
un_never_skips p (forms.Mark marks.Minus) h = cc
un_never_skips p _ h = cc

then_never_skips : (m : Move) (zs : List Sym) → (m ≡ skip → ⊥) → and_then m zs ≡ skip → ⊥
then_never_skips (take ys vs) zs n h = cc
then_never_skips skip zs n h = n refl
then_never_skips stop zs n h = cc

neg_never_skips : (p : Place) (f : TokenForm) → next_neg p f ≡ skip → ⊥
neg_never_skips p (forms.Key keys.Not) h = cc
neg_never_skips p f h = then_never_skips (next_un p f) (tail_prod ∷ tail_sum ∷ tail_cmp ∷ []) (un_never_skips p f) h

pub simple_never_skips : (p : Place) (f : TokenForm) → next_simple p f ≡ skip → ⊥
simple_never_skips p (forms.Key keys.Pass) h = cc
simple_never_skips p (forms.Key keys.Break) h = cc
simple_never_skips p (forms.Key keys.Continue) h = cc
simple_never_skips p (forms.Key keys.Return) h = cc
simple_never_skips p (forms.Key keys.Raise) h = cc
simple_never_skips p (forms.Key keys.Assert) h = cc
simple_never_skips p f h = then_never_skips (next_neg p f) (tail_and ∷ tail_or ∷ simple_tail p ∷ []) (neg_never_skips p f) h

pub stmt_never_skips : (p : Place) (f : TokenForm) → next_stmt p f ≡ skip → ⊥
stmt_never_skips p (forms.Key keys.If) h = cc
stmt_never_skips p (forms.Key keys.While) h = cc
stmt_never_skips p (forms.Key keys.Try) h = cc
stmt_never_skips p (forms.Key keys.With) h = cc
stmt_never_skips p f h = then_never_skips (next_simple p f) (fixed newline ∷ []) (simple_never_skips p f) h
