-- What a token means to a list of parameters, by the machine's table.
use Rattle.std.specs.Prelude.{[], ◌∷◌, ◌≡◌}
use Rattle.py_base.specs.declared.Place.{Place}
use Rattle.py_tokens.specs.declared.TokenForm.{TokenForm}
use Rattle.py_tokens.specs.declared.TokenForm.TheVariants as forms
use Rattle.py_tokens.specs.declared.Mark.TheVariants as marks
use Rattle.py_grammar.specs.Symbols.{vname, param_tail, params_tail, take, stop}
use Rattle.py_grammar.specs.Moves.{next_params}
use Rattle.py_parser.specs.declared.front.ParamsFront.{ParamsFront}
use Rattle.py_parser.specs.declared.front.ParamsFront.TheVariants as fronts

-- A list of parameters begins so with the token of this form at this place.
abbrev pub OpensParams : ParamsFront → Place → TokenForm → Type 0
OpensParams fronts.Close p f = f ≡ forms.Mark marks.CloseParen
OpensParams (fronts.Name w) p f = next_params p f ≡ take (param_tail ∷ params_tail ∷ []) (vname w.place w.text ∷ [])
OpensParams fronts.Other p f = next_params p f ≡ stop
