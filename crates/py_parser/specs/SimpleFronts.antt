-- What a token means to a statement of one line, by the machine's table.
use Rattle.std.specs.Prelude.{[], ◌∷◌, ◌≡◌}
use Rattle.py_base.specs.declared.Place.{Place}
use Rattle.py_tokens.specs.declared.TokenForm.{TokenForm}
use Rattle.py_tokens.specs.declared.TokenForm.TheVariants as forms
use Rattle.py_tokens.specs.declared.Keyword.TheVariants as keys
use Rattle.py_tokens.specs.declared.Mark.TheVariants as marks
use Rattle.py_grammar.specs.Symbols.{simple_tail, skip}
use Rattle.py_grammar.specs.Moves.{next_expr, next_simple, next_simple_tail, augment_with}
use Rattle.py_parser.specs.declared.front.Front.{Front}
use Rattle.py_parser.specs.declared.front.Front.TheVariants as fronts
use Rattle.py_parser.specs.declared.front.Behind.{Behind}
use Rattle.py_parser.specs.declared.front.Behind.TheVariants as behinds

-- A statement of one line begins so with the token of this form at this place.
abbrev pub OpensSimple : Front → Place → TokenForm → Type 0
OpensSimple fronts.Pass p f = f ≡ forms.Key keys.Pass
OpensSimple fronts.Break p f = f ≡ forms.Key keys.Break
OpensSimple fronts.Continue p f = f ≡ forms.Key keys.Continue
OpensSimple fronts.Return p f = f ≡ forms.Key keys.Return
OpensSimple fronts.Raise p f = f ≡ forms.Key keys.Raise
OpensSimple fronts.Assert p f = f ≡ forms.Key keys.Assert
OpensSimple fronts.Other p f = next_simple p f ≡ next_expr p f (simple_tail p ∷ [])

-- A statement, wherever it began, goes on so with the token of this form at this place.
abbrev pub Continues : Behind → Place → TokenForm → Type 0
Continues behinds.Colon p f = f ≡ forms.Mark marks.Colon
Continues behinds.Assign p f = f ≡ forms.Mark marks.Assign
Continues (behinds.Augment o) p f = (q : Place) → next_simple_tail q p f ≡ augment_with q p o
Continues behinds.Nothing p f = (q : Place) → next_simple_tail q p f ≡ skip
