-- What a function, a member of a class and an item of a module begin with, and what stands for them behind that token.
use Rattle.std.specs.Prelude.{List, [], ◌∷◌, ◌++◌, ◌≡◌}
use Rattle.py_base.specs.declared.Place.{Place}
use Rattle.py_tokens.specs.declared.TokenForm.{TokenForm}
use Rattle.py_grammar.specs.Symbols.{newline, colon, word_def, vmarks, Sym, fixed, make, want_name, members, class_body, base, items, take, stop}
use Rattle.py_grammar.specs.Makers.{make_member, make_class, make_item, make_module}
use Rattle.py_grammar.specs.Moves.{func_with, decorator_with, next_members, next_items}
use Rattle.py_parser.specs.declared.opening.FuncStart.{FuncStart}
use Rattle.py_parser.specs.declared.opening.FuncStart.TheVariants as funcs
use Rattle.py_parser.specs.declared.opening.MemberStart.{MemberStart}
use Rattle.py_parser.specs.declared.opening.MemberStart.TheVariants as starts
use Rattle.py_parser.specs.declared.opening.ItemStart.{ItemStart}
use Rattle.py_parser.specs.declared.opening.ItemStart.TheVariants as openings

-- what stands for a function once its first token is taken
abbrev pub func_symbols : FuncStart → List Sym
func_symbols funcs.Def = func_with []
func_symbols funcs.Decorator = decorator_with (fixed word_def ∷ func_with [])

-- what stands for a class once its first word is taken
abbrev pub class_symbols : List Sym
class_symbols = want_name ∷ base ∷ fixed colon ∷ class_body ∷ make make_class ∷ []

-- A member of a class, or their end, begins so with the token of this form.
abbrev pub MemberBy : MemberStart → TokenForm → Type 0
MemberBy starts.End f = next_members f ≡ take [] []
MemberBy starts.Pass f = next_members f ≡ take (fixed newline ∷ members ∷ []) []
MemberBy (starts.Func s) f = next_members f ≡ take (func_symbols s ++ make make_member ∷ members ∷ []) (vmarks [] ∷ [])
MemberBy starts.Other f = next_members f ≡ stop

-- An item of a module, or their end, begins so with the token of this form at this place.
abbrev pub ItemBy : ItemStart → Place → TokenForm → Type 0
ItemBy openings.End p f = next_items p f ≡ take (make (make_module p) ∷ []) []
ItemBy openings.Class p f = next_items p f ≡ take (class_symbols ++ items ∷ []) []
ItemBy (openings.Func s) p f = next_items p f ≡ take (func_symbols s ++ make make_item ∷ items ∷ []) (vmarks [] ∷ [])
ItemBy openings.Other p f = next_items p f ≡ stop
